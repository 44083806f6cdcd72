-- Each group is written behind the one before it. Assumes nothing.
use mathlib.Core.Path.{refl}
use Rattle.answer_numbers.specs.States.{bone_state}
use Rattle.answer_numbers.specs.Groups.{pose, vector, orientation}
use Rattle.answer_numbers.proofs.Putting.{behind}
use Rattle.answer_numbers.proofs.states.PmmDocumentBoneStateSummaryNumbers.put.Goals as goal

pub returns : goal.returns
unfolding bone_state pose vector orientation
returns c =
    behind _ _ _ _ _ _ _ c.put_at.ensures refl c.put_bone_state_flags.ensures
