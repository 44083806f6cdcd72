-- Bone, morph and model records by number (FORMAT, Calls by number).
use Rattle.std.specs.Prelude.{ℕ, Bool, cond, List}
use Rattle.layout.specs.Walk.{Walk, fine, after, Answer}
use Rattle.records.specs.Keyframes.{bone_bits, bone_of, morph_bits, morph_of, model_bits, model_of}
use Rattle.records.specs.declared.bone.PmmDocumentBoneKeyframeSummary.{PmmDocumentBoneKeyframeSummary}
use Rattle.records.specs.declared.morph.PmmDocumentMorphKeyframeSummary.{PmmDocumentMorphKeyframeSummary}
use Rattle.records.specs.declared.model.PmmDocumentModelKeyframeSummary.{PmmDocumentModelKeyframeSummary}
use Rattle.section.specs.declared.limits.Limits.{Limits}
use Rattle.entries.specs.Lists.{locate, nth}
use Rattle.entries.specs.declared.{lists.SectionList.{SectionList}, keyframes.ModelRecord.{ModelRecord}}

-- Additional records include an index, initial ones do not.
abbrev pub bone_list : Bool → SectionList
bone_list include_index = cond include_index SectionList.Bones SectionList.InitialBones

abbrev pub morph_list : Bool → SectionList
morph_list include_index = cond include_index SectionList.Morphs SectionList.InitialMorphs

abbrev pub model_list : Bool → SectionList
model_list include_index = cond include_index SectionList.Models SectionList.InitialModels

-- The model record of a number, the offset behind it, and what its section counts.
unfoldable pub model_record : Limits → Bool → ℕ → List ℕ → ℕ → Walk ModelRecord
model_record limits include_index k s start =
    after (locate limits (model_list include_index) k s start)
    (λ m at. after (model_bits include_index m.front.counts.constraints m.front.counts.parents s at) (λ b end. fine (record { counts = m.front.counts; at = at; bits = b }) end))

abbrev pub bone_keyframe : Limits → Bool → ℕ → List ℕ → ℕ → Answer PmmDocumentBoneKeyframeSummary
bone_keyframe limits include_index k =
    nth limits (bone_list include_index) k (λ m. bone_bits include_index) (λ m at b end. bone_of b at end)

abbrev pub morph_keyframe : Limits → Bool → ℕ → List ℕ → ℕ → Answer PmmDocumentMorphKeyframeSummary
morph_keyframe limits include_index k =
    nth limits (morph_list include_index) k (λ m. morph_bits include_index) (λ m at b end. morph_of b at end)

abbrev pub model_keyframe : Limits → Bool → ℕ → List ℕ → ℕ → Answer PmmDocumentModelKeyframeSummary
model_keyframe limits include_index k =
    nth limits (model_list include_index) k (λ m. model_bits include_index m.front.counts.constraints m.front.counts.parents)
    (λ m at b end. model_of m.front.counts.constraints m.front.counts.parents b at end)
