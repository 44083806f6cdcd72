-- Document 01, module 2 (FORMAT, Calls by number): "records, names, states and a model record's bools and pairs are answered by number from
-- 0, each list of the summary on its own".
use Rattle.std.specs.Prelude.{ℕ, cond, List, [], ltb}
use Rattle.layout.specs.{Refusals.{absent}, Walk.{Walk, fine, refused, refusal, Reader, after, Answer, entry_of, times, items}}
use Rattle.layout.specs.Records.{initial, additional, bone, morph, model, bone_state, morph_state, constraint_state, parent_state}
use Rattle.section.specs.declared.{limits.Limits.{Limits}, model.Model.{Model}}
use Rattle.section.specs.Model.{model_section}
use Rattle.entries.specs.declared.lists.SectionList.{SectionList}

-- How many entries a list has, where the first stands, and the items of one.
pub record Listed : Type 0 where
  pub count : ℕ
  pub offset : ℕ
  pub widths : List ℕ

abbrev pub listed : ℕ → ℕ → List ℕ → Listed
listed count offset widths = record { count = count; offset = offset; widths = widths }

unfoldable pub entries_of : SectionList → Model → Listed
entries_of SectionList.InitialBones m = listed m.front.counts.bones.count m.keyframes.bones.initial_offset (initial bone)
entries_of SectionList.Bones m = listed m.keyframes.bones.count m.keyframes.bones.offset (additional bone)
entries_of SectionList.InitialMorphs m = listed m.front.counts.morphs.count m.keyframes.morphs.initial_offset (initial morph)
entries_of SectionList.Morphs m = listed m.keyframes.morphs.count m.keyframes.morphs.offset (additional morph)
entries_of SectionList.InitialModels m = listed 1 m.keyframes.models.initial_offset (initial (model m.front.counts.constraints m.front.counts.parents))
entries_of SectionList.Models m = listed m.keyframes.models.count m.keyframes.models.offset (additional (model m.front.counts.constraints m.front.counts.parents))
entries_of SectionList.BoneStates m = listed m.front.counts.bones.count m.states.bones bone_state
entries_of SectionList.MorphStates m = listed m.front.counts.morphs.count m.states.morphs morph_state
entries_of SectionList.ConstraintStates m = listed m.front.counts.constraints m.states.constraints constraint_state
entries_of SectionList.OutsideParentStates m = listed m.front.counts.parents m.states.parents parent_state

-- Entry k stands behind k others. 19: there is none of that number.
unfoldable pub entry_at : Listed → ℕ → List ℕ → Walk (Unit {0})
entry_at e k s = cond (ltb k e.count) (times k (items e.widths) s e.offset) (refused (refusal absent []))

-- 19 is tested after reading: the section, at the offset of entry k of the list.
unfoldable pub locate : Limits → SectionList → ℕ → List ℕ → ℕ → Walk Model
locate limits list k s start =
    after (model_section limits s start) (λ m end. after (entry_at (entries_of list m) k s) (λ u at. fine m at))

-- What a call answers of entry k.
abbrev pub nth : {A B : Type 0} → Limits → SectionList → ℕ → (Model → Reader A) → (Model → ℕ → A → ℕ → B) → List ℕ → ℕ → Answer B
nth limits list k bits summary s start = entry_of (locate limits list k s start) bits summary s
