-- Each group is written behind the one before it. Assumes nothing.
use mathlib.Core.Path.{refl}
use Rattle.answer_numbers.specs.Summary.{scalars, places, view, selected, counts}
use Rattle.answer_numbers.proofs.Putting.{behind}
use Rattle.answer_numbers.proofs.summary.put_scalars.Goals as goal

pub returns : goal.returns
unfolding scalars places view selected counts
returns c =
    behind _ _ _ _ _ _ _
    (behind _ _ _ _ _ _ _
    (behind _ _ _ _ _ _ _
    (behind _ _ _ _ _ _ _
    c.put_places.ensures refl
    c.put_view.ensures) refl
    c.put_selected.ensures) refl
    c.put_counts.ensures) refl
    c.put_ending.ensures
