-- The numbers of states and of a model record's bools and pairs.
use Rattle.std.specs.Prelude.{ℕ, Bool, List, [], ◌∷◌, ◌++◌}
use Rattle.answer_numbers.specs.Scalars as number
use Rattle.answer_numbers.specs.Groups.{pose}
use Rattle.entries.specs.declared.model_lists.PmmDocumentOutsideParentIndexSummary.{PmmDocumentOutsideParentIndexSummary}
use Rattle.records.specs.declared.states.PmmDocumentBoneStateSummary.{PmmDocumentBoneStateSummary}
use Rattle.records.specs.declared.states.PmmDocumentMorphStateSummary.{PmmDocumentMorphStateSummary}
use Rattle.records.specs.declared.states.PmmDocumentOutsideParentStateSummary.{PmmDocumentOutsideParentStateSummary}

unfoldable pub bone_state_flags : PmmDocumentBoneStateSummary → List ℕ
bone_state_flags b = number.flag b.dirty ∷ number.flag b.physics_disabled ∷ number.flag b.selected ∷ []

unfoldable pub bone_state : PmmDocumentBoneStateSummary → List ℕ
bone_state b = pose b.pose_bits ++ bone_state_flags b

unfoldable pub morph_state : PmmDocumentMorphStateSummary → List ℕ
morph_state m = m.weight_bits ∷ []

unfoldable pub flag : Bool → List ℕ
flag b = number.flag b ∷ []

unfoldable pub pair : PmmDocumentOutsideParentIndexSummary → List ℕ
pair p = number.pattern p.parent_model_index ∷ number.pattern p.parent_model_bone_index ∷ []

unfoldable pub outside_parent : PmmDocumentOutsideParentStateSummary → List ℕ
outside_parent p =
    number.pattern p.parent_model_index ∷ number.pattern p.parent_model_bone_index
    ∷ number.pattern p.subject_bone_index ∷ number.pattern p.target_model_index ∷ []
