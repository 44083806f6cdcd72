-- States by number (FORMAT, Calls by number).
use Rattle.std.specs.Prelude.{ℕ, Bool, List}
use Rattle.layout.specs.Walk.{Answer, u32, bool}
use Rattle.binary.specs.Groups.{u32s}
use Rattle.records.specs.States.{bone_state as bone_state_bits, bone_state_of, morph_state_of, parent_state_of}
use Rattle.records.specs.declared.states.PmmDocumentBoneStateSummary.{PmmDocumentBoneStateSummary}
use Rattle.records.specs.declared.states.PmmDocumentMorphStateSummary.{PmmDocumentMorphStateSummary}
use Rattle.records.specs.declared.states.PmmDocumentOutsideParentStateSummary.{PmmDocumentOutsideParentStateSummary}
use Rattle.section.specs.declared.limits.Limits.{Limits}
use Rattle.entries.specs.Lists.{nth}
use Rattle.entries.specs.declared.lists.SectionList.{SectionList}

abbrev pub bone_state : Limits → ℕ → List ℕ → ℕ → Answer PmmDocumentBoneStateSummary
bone_state limits k = nth limits SectionList.BoneStates k (λ m. bone_state_bits) (λ m at b end. bone_state_of b)

abbrev pub morph_state : Limits → ℕ → List ℕ → ℕ → Answer PmmDocumentMorphStateSummary
morph_state limits k = nth limits SectionList.MorphStates k (λ m. u32) (λ m at b end. morph_state_of b)

abbrev pub constraint_state : Limits → ℕ → List ℕ → ℕ → Answer Bool
constraint_state limits k = nth limits SectionList.ConstraintStates k (λ m. bool) (λ m at b end. b)

abbrev pub outside_parent_state : Limits → ℕ → List ℕ → ℕ → Answer PmmDocumentOutsideParentStateSummary
outside_parent_state limits k = nth limits SectionList.OutsideParentStates k (λ m. u32s 4) (λ m at b end. parent_state_of b)
