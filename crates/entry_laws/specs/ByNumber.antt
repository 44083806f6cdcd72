-- Document 01, module 2 (FORMAT, Calls by number): "records, names, states and a model record's bools and pairs are answered by number from
-- 0, each list of the summary on its own", and 19 is "tested after reading". Of a section whose summary is answered, the numbers below the
-- summary's counts are answered, and all others are 19. Of one whose summary is refused, every call is refused alike.
use Rattle.std.specs.Prelude.{ℕ, ◌<◌, ◌≤◌, Bool, true, false, List, [], ◌≡◌}
use Rattle.layout.specs.{Refusals.{absent}, Walk.{Refusal, refusal, Answer, declined, Answers}}
use Rattle.section.specs.declared.{limits.Limits.{Limits}, summary.PmmDocumentModelSummary.{PmmDocumentModelSummary}}
use Rattle.entries.specs.Keyframes.{bone_keyframe, morph_keyframe, model_keyframe}
use Rattle.entries.specs.ModelLists.{model_keyframe_constraint_state, model_keyframe_outside_parent}
use Rattle.entries.specs.{States.{bone_state, morph_state, constraint_state, outside_parent_state}, Texts.{text_of}}
use Rattle.entries.specs.declared.texts.Text.{Text}
use Rattle.strip.specs.Call.{strip_call}
use Rattle.camera_light.specs.declared.track.PmmDocumentTrackSummary.{PmmDocumentTrackSummary}

-- A call by number, of a list with so many entries.
pub record ByNumber {A : Type 0} (count : ℕ) (call : ℕ → Answer A) : Type 0 where
  pub below : (k : ℕ) → k < count → Answers (call k)
  pub past : (k : ℕ) → count ≤ k → call k ≡ declined (refusal absent [])

-- A call by two numbers: of a record, and of one of its so many parts.
pub record PartsByNumber {A : Type 0} (records count : ℕ) (call : ℕ → ℕ → Answer A) : Type 0 where
  pub below : (n : ℕ) → n < records → ByNumber count (call n)
  pub past : (n k : ℕ) → records ≤ n → call n k ≡ declined (refusal absent [])

-- Camera or light records.
pub record RecordsByNumber {A : Type 0} (t : PmmDocumentTrackSummary) (call : Bool → ℕ → Answer A) : Type 0 where
  pub initial : ByNumber t.initial_keyframes (call false)
  pub additional : ByNumber t.keyframes (call true)

pub record RecordsDeclined {A : Type 0} (why : Refusal) (call : Bool → ℕ → Answer A) : Type 0 where
  pub every : (include_index : Bool) (k : ℕ) → call include_index k ≡ declined why

-- The lists of a model section.
pub record AllByNumber (limits : Limits) (s : List ℕ) (start : ℕ) (m : PmmDocumentModelSummary) : Type 0 where
  pub initial_bones : ByNumber m.initial_bone_keyframes (λ k. bone_keyframe limits false k s start)
  pub bones : ByNumber m.bone_keyframes (λ k. bone_keyframe limits true k s start)
  pub initial_morphs : ByNumber m.initial_morph_keyframes (λ k. morph_keyframe limits false k s start)
  pub morphs : ByNumber m.morph_keyframes (λ k. morph_keyframe limits true k s start)
  pub initial_models : ByNumber m.initial_model_keyframes (λ k. model_keyframe limits false k s start)
  pub models : ByNumber m.model_keyframes (λ k. model_keyframe limits true k s start)
  pub bone_states : ByNumber m.bone_count (λ k. bone_state limits k s start)
  pub morph_states : ByNumber m.morph_count (λ k. morph_state limits k s start)
  pub constraint_states : ByNumber m.constraint_bone_count (λ k. constraint_state limits k s start)
  pub parent_states : ByNumber m.outside_parent_subject_bone_count (λ k. outside_parent_state limits k s start)
  pub name : Answers (text_of limits Text.Name s start)
  pub english_name : Answers (text_of limits Text.EnglishName s start)
  pub path : Answers (text_of limits Text.Path s start)
  pub bone_names : ByNumber m.bone_count (λ k. text_of limits (Text.Bone k) s start)
  pub morph_names : ByNumber m.morph_count (λ k. text_of limits (Text.Morph k) s start)
  pub initial_flags : PartsByNumber m.initial_model_keyframes m.constraint_bone_count (λ n k. model_keyframe_constraint_state limits false n k s start)
  pub flags : PartsByNumber m.model_keyframes m.constraint_bone_count (λ n k. model_keyframe_constraint_state limits true n k s start)
  pub initial_pairs : PartsByNumber m.initial_model_keyframes m.outside_parent_subject_bone_count (λ n k. model_keyframe_outside_parent limits false n k s start)
  pub pairs : PartsByNumber m.model_keyframes m.outside_parent_subject_bone_count (λ n k. model_keyframe_outside_parent limits true n k s start)

-- Of a section whose summary is refused, every call gives that refusal.
pub record AllDeclined (limits : Limits) (s : List ℕ) (start : ℕ) (why : Refusal) : Type 0 where
  pub bones : (include_index : Bool) (k : ℕ) → bone_keyframe limits include_index k s start ≡ declined why
  pub morphs : (include_index : Bool) (k : ℕ) → morph_keyframe limits include_index k s start ≡ declined why
  pub models : (include_index : Bool) (k : ℕ) → model_keyframe limits include_index k s start ≡ declined why
  pub bone_states : (k : ℕ) → bone_state limits k s start ≡ declined why
  pub morph_states : (k : ℕ) → morph_state limits k s start ≡ declined why
  pub constraint_states : (k : ℕ) → constraint_state limits k s start ≡ declined why
  pub parent_states : (k : ℕ) → outside_parent_state limits k s start ≡ declined why
  pub texts : (text : Text) → text_of limits text s start ≡ declined why
  pub flags : (include_index : Bool) (n k : ℕ) → model_keyframe_constraint_state limits include_index n k s start ≡ declined why
  pub pairs : (include_index : Bool) (n k : ℕ) → model_keyframe_outside_parent limits include_index n k s start ≡ declined why
  pub strip : (width : ℕ) (first second output : List ℕ) → (strip_call limits width s start first second output).answer ≡ declined why
