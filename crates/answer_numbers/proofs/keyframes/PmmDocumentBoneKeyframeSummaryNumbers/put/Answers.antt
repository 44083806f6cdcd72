-- Each group is written behind the one before it. Assumes nothing.
use mathlib.Core.Path.{refl}
use Rattle.answer_numbers.specs.Keyframes.{bone, bone_flags}
use Rattle.answer_numbers.specs.Groups.{base, pose, vector, orientation}
use Rattle.answer_numbers.proofs.Putting.{behind}
use Rattle.answer_numbers.proofs.keyframes.PmmDocumentBoneKeyframeSummaryNumbers.put.Goals as goal

pub returns : goal.returns
unfolding bone bone_flags base pose vector orientation
returns c =
    behind _ _ _ _ _ _ _
    (behind _ _ _ _ _ _ _
    (behind _ _ _ _ _ _ _
    c.put_at.ensures refl
    c.put_at-2.ensures) refl
    c.put_bone_flags.ensures) refl
    c.put_at-3.ensures
