-- Each group is written behind the one before it. Assumes nothing.
use mathlib.Core.Path.{refl}
use Rattle.answer_numbers.specs.Tracks.{camera_view}
use Rattle.answer_numbers.specs.Groups.{base, vector}
use Rattle.answer_numbers.proofs.Putting.{behind, same, also}
use Rattle.answer_numbers.proofs.camera.put_view.Goals as goal

pub returns : goal.returns
unfolding camera_view base vector
returns c =
    behind _ _ _ _ _ _ _
    (behind _ _ _ _ _ _ _
    (behind _ _ _ _ _ _ _
    c.put_at.ensures refl
    (same _ _ _ _ _ c.put.ensures (also _ _ _ _ c.from.ensures refl))) refl
    c.put_at-2.ensures) refl
    c.put_at-3.ensures
