-- The numbers below the summary's counts are answered, and all others are 19 (specs/ByNumber): each list of a section that was read stands
-- whole (Whole), so its entries are found and read (Entries). Of a section that was refused none is found. Assumes nothing.
use Prim.Native.Nat.{ℕ}
use mathlib.Core.Bool.{Bool, true, false}
use mathlib.Core.List.{List}
use mathlib.Core.Path.{◌≡◌, refl, subst}
use native.Mathlib.Omega.{arith}
use borrow.Author.Tests.{lt-ltb, le-ltb}
use Rattle.layout.specs.Walk.{Refusal, Walk, fine, refused, Reader, Answer, answered, declined, answer, after}
use Rattle.layout.specs.declared.Part.{Part}
use Rattle.layout.proofs.Walks.{Walks, walks-bool, walks-u32}
use Rattle.records.proofs.Table.{bones-walk, morphs-walk, models-walk, bone-states-walk, u32s-walks}
use Rattle.records.specs.Keyframes.{model_bits}
use Rattle.records.specs.declared.model.ModelBits.{ModelBits}
use Rattle.section.specs.declared.limits.Limits.{Limits}
use Rattle.section.specs.Model.{model_section}
use Rattle.section.specs.Summary.{model_summary, summary_of}
use Rattle.section.specs.declared.model.Model.{Model}
use Rattle.section.specs.declared.names.Names.{Names}
use Rattle.section.specs.declared.summary.PmmDocumentModelSummary.{PmmDocumentModelSummary}
use Rattle.entries.specs.Lists.{entries_of, locate, nth}
use Rattle.entries.specs.Keyframes.{bone_list, morph_list, model_list}
use Rattle.strip.specs.Call.{strip_call}
use Rattle.entries.specs.Texts.{name_at, text_at, text_of}
use Rattle.entries.specs.declared.lists.SectionList.{SectionList}
use Rattle.clip.proofs.Facts.{NamesRead, Blocks, blocks}
use Rattle.entry_laws.specs.ByNumber.{ByNumber, PartsByNumber, AllByNumber, AllDeclined}
use Rattle.entry_laws.proofs.Entries.{Finds, entry_whole, answered-by, declined-by, declined-found, found-there, found-past, entries-by-number}
use Rattle.entry_laws.proofs.Whole.{EntryRead, list-stands, behind}
use Rattle.entry_laws.proofs.ModelParts.{flag-read, pair-read}

module _ (limits : Limits) (s : List ℕ) (start : ℕ) (m : Model) (end : ℕ) (reads : model_section limits s start ≡ fine m end) where
  stands : Blocks limits s m
  stands = blocks limits s start m end reads

  finds : (list : SectionList) → Finds s (entries_of list m) m (λ k. locate limits list k s start)
  unfolding locate
  finds list k = rw reads refl

  list-by-number : {A B : Type 0} (list : SectionList) (bits : Model → Reader A) (summary : Model → ℕ → A → ℕ → B) → Walks (bits m) (entries_of list m).widths → ByNumber (entries_of list m).count (λ k. nth limits list k bits summary s start)
  list-by-number list = entries-by-number s (entries_of list m) m (λ k. locate limits list k s start) (finds list) (list-stands limits s m stands list)

  -- The parts of model records, where each record that is read has so many.
  parts-by-number : {A B : Type 0} (list : SectionList) (include_index : Bool) (count : ℕ) (bits : ℕ → Model → Reader A) (summary : Model → ℕ → A → ℕ → B) → Walks (model_bits include_index m.front.counts.constraints m.front.counts.parents) (entries_of list m).widths → ((at : ℕ) (b : ModelBits) (to : ℕ) → model_bits include_index m.front.counts.constraints m.front.counts.parents s at ≡ fine b to → (k : ℕ) → EntryRead count k (bits k m s at)) → PartsByNumber (entries_of list m).count count (λ n k. nth limits list n (bits k) summary s start)
  parts-by-number list include_index count bits summary walks parts = record {
    below = λ n there.
        let r = entry_whole s (entries_of list m) (list-stands limits s m stands list) n there (model_bits include_index m.front.counts.constraints m.front.counts.parents) walks in
        let at = found-there s (entries_of list m) m (λ k. locate limits list k s start) (finds list) (list-stands limits s m stands list) n there in
        record {
          below = λ k low.
              let v = (parts _ r.value _ r.is k).0 low in
              answered-by (locate limits list n s start) (bits k) summary s m _ at v.value v.to v.is;
          past = λ k high. declined-by (locate limits list n s start) (bits k) summary s m _ at _ ((parts _ r.value _ r.is k).1 high);
        };
    past = λ n k past. declined-found (locate limits list n s start) (bits k) summary s _ (found-past s (entries_of list m) m (λ k. locate limits list k s start) (finds list) n past);
  }

  -- A name that was read, by whatever call answers of it.
  names-by-number : (names : Names) → NamesRead limits.tracks s names → (call : ℕ → Answer Part) → ((k : ℕ) → call k ≡ answer (name_at names k s)) → ByNumber names.count call
  unfolding name_at
  names-by-number names was call is = record {
    below = λ k there.
        let b = behind _ names.count k s names.offset was.end there was.read in
        record { value = b.value; is = rw (is k, lt-ltb k names.count there, b.is) refl };
    past = λ k past. rw (is k, le-ltb k names.count past) refl;
  }

  model-by-number : AllByNumber limits s start (summary_of start m end)
  unfolding summary_of entries_of text_of text_at
  model-by-number =
      let c = m.front.counts.constraints in
      let p = m.front.counts.parents in
      record {
        initial_bones = list-by-number SectionList.InitialBones _ _ bones-walk.0;
        bones = list-by-number SectionList.Bones _ _ bones-walk.1;
        initial_morphs = list-by-number SectionList.InitialMorphs _ _ morphs-walk.0;
        morphs = list-by-number SectionList.Morphs _ _ morphs-walk.1;
        initial_models = list-by-number SectionList.InitialModels _ _ (models-walk c p).0;
        models = list-by-number SectionList.Models _ _ (models-walk c p).1;
        bone_states = list-by-number SectionList.BoneStates _ _ bone-states-walk;
        morph_states = list-by-number SectionList.MorphStates _ _ walks-u32;
        constraint_states = list-by-number SectionList.ConstraintStates _ _ walks-bool;
        parent_states = list-by-number SectionList.OutsideParentStates _ _ (u32s-walks 4);
        initial_flags = parts-by-number SectionList.InitialModels false m.front.counts.constraints _ _ (models-walk c p).0 (flag-read false c p s);
        flags = parts-by-number SectionList.Models true m.front.counts.constraints _ _ (models-walk c p).1 (flag-read true c p s);
        initial_pairs = parts-by-number SectionList.InitialModels false m.front.counts.parents _ _ (models-walk c p).0 (pair-read false c p s);
        pairs = parts-by-number SectionList.Models true m.front.counts.parents _ _ (models-walk c p).1 (pair-read true c p s);
        name = let r = stands.texts.name in record { value = r.value; is = rw (reads, r.is) refl };
        english_name = let r = stands.texts.english_name in record { value = r.value; is = rw (reads, r.is) refl };
        path = let r = stands.texts.path in record { value = r.value; is = rw (reads, r.is) refl };
        bone_names = names-by-number m.front.counts.bones stands.bone_names _ (λ k. rw reads refl);
        morph_names = names-by-number m.front.counts.morphs stands.morph_names _ (λ k. rw reads refl);
      }

pub all-by-number : (limits : Limits) (s : List ℕ) (start : ℕ) (x : PmmDocumentModelSummary) → model_summary limits s start ≡ answered x → AllByNumber limits s start x
unfolding model_summary
all-by-number limits s start x e = go (model_section limits s start) refl e
  where
    go : (w : Walk Model) → model_section limits s start ≡ w → answer (after w (λ m end. fine (summary_of start m end) end)) ≡ answered x → AllByNumber limits s start x
    go (fine m end) reads e = let is : summary_of start m end ≡ x = cc in subst (AllByNumber limits s start) is (model-by-number limits s start m end reads)
    go (refused why) reads e = absurd (let z : ◌≡◌ {A = ℕ} 0 1 = cc in omega arith)

module _ (limits : Limits) (s : List ℕ) (start : ℕ) (why : Refusal) (is : model_section limits s start ≡ refused why) where
  list-declined : {A B : Type 0} (list : SectionList) (k : ℕ) (bits : Model → Reader A) (summary : Model → ℕ → A → ℕ → B) → nth limits list k bits summary s start ≡ declined why
  unfolding locate
  list-declined list k bits summary = declined-found (locate limits list k s start) bits summary s why (rw is refl)

  all-refused : AllDeclined limits s start why
  unfolding text_of strip_call
  all-refused = record {
    bones = λ include_index k. list-declined (bone_list include_index) k _ _;
    morphs = λ include_index k. list-declined (morph_list include_index) k _ _;
    models = λ include_index k. list-declined (model_list include_index) k _ _;
    bone_states = λ k. list-declined SectionList.BoneStates k _ _;
    morph_states = λ k. list-declined SectionList.MorphStates k _ _;
    constraint_states = λ k. list-declined SectionList.ConstraintStates k _ _;
    parent_states = λ k. list-declined SectionList.OutsideParentStates k _ _;
    texts = λ text. rw is refl;
    flags = λ include_index n k. list-declined (model_list include_index) n _ _;
    pairs = λ include_index n k. list-declined (model_list include_index) n _ _;
    strip = λ width first second output. rw is refl;
  }

pub all-declined : (limits : Limits) (s : List ℕ) (start : ℕ) (why : Refusal) → model_summary limits s start ≡ declined why → AllDeclined limits s start why
unfolding model_summary
all-declined limits s start why e = go (model_section limits s start) refl e
  where
    go : (w : Walk Model) → model_section limits s start ≡ w → answer (after w (λ m end. fine (summary_of start m end) end)) ≡ declined why → AllDeclined limits s start why
    go (fine m end) is e = absurd (let z : ◌≡◌ {A = ℕ} 0 1 = cc in omega arith)
    go (refused other) is e = let same : other ≡ why = cc in subst (AllDeclined limits s start) same (all-refused limits s start other is)
