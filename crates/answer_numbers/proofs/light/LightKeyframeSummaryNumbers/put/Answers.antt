-- Each group is written behind the one before it. Assumes nothing.
use mathlib.Core.Path.{refl}
use Rattle.answer_numbers.specs.Tracks.{light, light_fields}
use Rattle.answer_numbers.specs.Groups.{base, vector}
use Rattle.answer_numbers.proofs.Putting.{behind}
use Rattle.answer_numbers.proofs.light.LightKeyframeSummaryNumbers.put.Goals as goal

pub returns : goal.returns
unfolding light light_fields base vector
returns c =
    behind _ _ _ _ _ _ _
    (behind _ _ _ _ _ _ _
    (behind _ _ _ _ _ _ _
    (behind _ _ _ _ _ _ _
    c.put_at.ensures refl
    c.put_at-2.ensures) refl
    c.put_at-3.ensures) refl
    c.put_fields.ensures) refl
    c.put_at-4.ensures
