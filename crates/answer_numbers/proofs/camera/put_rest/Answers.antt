-- Each group is written behind the one before it. Assumes nothing.
use mathlib.Core.Path.{refl}
use Rattle.answer_numbers.specs.Tracks.{camera_rest, camera_fields, camera_offsets}
use Rattle.answer_numbers.proofs.Putting.{behind}
use Rattle.answer_numbers.proofs.camera.put_rest.Goals as goal

pub returns : goal.returns
unfolding camera_rest camera_fields camera_offsets
returns c =
    behind _ _ _ _ _ _ _
    (behind _ _ _ _ _ _ _
    c.put_fields.ensures refl
    c.put_offsets.ensures) refl
    c.put_at.ensures
