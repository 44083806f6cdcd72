-- Each group is written behind the one before it. Assumes nothing.
use mathlib.Core.Path.{refl}
use Rattle.answer_numbers.specs.Tracks.{camera, camera_view}
use Rattle.answer_numbers.specs.Groups.{base, vector}
use Rattle.answer_numbers.proofs.Putting.{behind}
use Rattle.answer_numbers.proofs.camera.CameraKeyframeSummaryNumbers.put.Goals as goal

pub returns : goal.returns
unfolding camera camera_view base vector
returns c = behind _ _ _ _ _ _ _ c.put_view.ensures refl c.put_rest.ensures
