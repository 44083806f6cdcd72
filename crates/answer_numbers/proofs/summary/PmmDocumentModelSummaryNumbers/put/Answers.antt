-- Each group is written behind the one before it. Assumes nothing.
use mathlib.Core.Path.{refl}
use Rattle.answer_numbers.specs.Summary.{model_summary, scalars, places, view, selected, counts, ending}
use Rattle.answer_numbers.proofs.Putting.{behind}
use Rattle.answer_numbers.proofs.summary.PmmDocumentModelSummaryNumbers.put.Goals as goal

pub returns : goal.returns
unfolding model_summary scalars places view selected counts ending
returns c =
    behind _ _ _ _ _ _ _
    c.put_scalars.ensures refl
    c.put_offsets.ensures
