-- Each group is written behind the one before it. Assumes nothing.
use mathlib.Core.Path.{refl}
use Rattle.answer_numbers.specs.Keyframes.{model, model_fields}
use Rattle.answer_numbers.specs.Groups.{base}
use Rattle.answer_numbers.proofs.Putting.{behind}
use Rattle.answer_numbers.proofs.keyframes.PmmDocumentModelKeyframeSummaryNumbers.put.Goals as goal

pub returns : goal.returns
unfolding model model_fields base
returns c =
    behind _ _ _ _ _ _ _
    (behind _ _ _ _ _ _ _
    c.put_at.ensures refl
    c.put_model_fields.ensures) refl
    c.put_at-2.ensures
