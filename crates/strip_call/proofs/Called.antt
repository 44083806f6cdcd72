-- The strip call from a section that was read, or not: a refusal of reading leaves the slices as they were; of a section that was read the
-- blocks stand in the bytes, and the slices are tested as the definition has it, A + B counted by the blocks. Assumes nothing.
use Prim.Native.Nat.{ℕ, ◌+◌, ◌≤◌, ◌<◌}
use native.Mathlib.Omega.{arith}
use mathlib.Core.Bool.{Bool, true, false, cond, ◌||◌}
use mathlib.Core.List.{List, [], ◌∷◌}
use mathlib.Core.Option.{none}
use mathlib.Core.Path.{◌≡◌, sym, ap, ◌∙◌, subst}
use borrow.Author.Tests.{lt-ltb, le-ltb}
use lib.Dec.{ltb}
use lib.IntN.{pos}
use lib.ListN.{length}
use Rattle.layout.specs.Walk.{refusal, fine, refused}
use Rattle.binary.specs.Answers.{reading_refusal}
use Rattle.section.specs.Limits.{edition1}
use Rattle.section.specs.Model.{model_section}
use Rattle.section.specs.declared.model.Model.{Model}
use Rattle.binary.specs.declared.refusal.Refusal.{Refusal}
use Rattle.clip.specs.Section.{records_at, bones, morphs, clip_refusal}
use Rattle.clip.proofs.First.{none_or}
use Rattle.clip.proofs.Facts.{blocks}
use Rattle.strip.specs.Strip.{count_width}
use Rattle.strip.specs.Call.{Outcome, untouched, built, slices_tested, strip_call}
use Rattle.strip.proofs.Length.{no_longer}
use Rattle.blocks.specs.declared.block.Block.{Block}
use Rattle.strip_call.specs.Blocks.{bone_block, morph_block}
use Rattle.strip_call.specs.Answers.{LeavesOutcome}
use Rattle.strip_call.specs.Building.{kind_meets}
use Rattle.strip_call.specs.Bytes.{strip_bytes}
use Rattle.strip_call.specs.Outcomes.{outcome_of, parts_of, WasRead}
use Rattle.blocks.specs.Block.{Fits}
use Rattle.strip_call.specs.declared.answer.Built.{Built as BuiltAnswer}
use Rattle.std.specs.Prelude.{Result, Err}
use Rattle.strip_call.specs.declared.answer.StripRefusal.{StripRefusal}
use Rattle.strip_call.proofs.Same.{same_met, same-strip, same_outcome, bones-stand, morphs-stand}

module _ {s : List ℕ} {m : Model} (w : WasRead s m) {bb mb : Block} (eb : bb ≡ bone_block m) (em : mb ≡ morph_block m) where
  -- A and B, as the definition counts them.
  counted : (bones s m).additional + (morphs s m).additional ≡ bb.records.count + mb.records.count
  unfolding bones morphs records_at bone_block morph_block
  counted = rw (eb, em)

  pub bones-within : Fits s bb
  bones-within = let b = blocks edition1 s w.start m w.end w.reads in rw eb (bones-stand s m b)

  pub morphs-within : Fits s mb
  morphs-within = let b = blocks edition1 s w.start m w.end w.reads in rw em (morphs-stand s m b)

  pub no_longer-here : kind_meets s bb ≡ none → kind_meets s mb ≡ none → length (strip_bytes s bb mb) ≤ length s
  no_longer-here n1 n2 =
      let met : clip_refusal s m ≡ none = same_met s m ∙ none_or (kind_meets s (bone_block m)) (kind_meets s (morph_block m)) (subst (λ (k : Block). kind_meets s k ≡ none) eb n1) (subst (λ (k : Block). kind_meets s k ≡ none) em n2) in
      let short = no_longer edition1 count_width (omega arith) s w.start m w.end w.reads met in
      rw (eb, em) (subst (λ (l : List ℕ). length l ≤ length s) (same-strip s m) short)

  module _ (first second output : List ℕ) where
    tested : Bool → Outcome
    tested b = cond b (untouched first second output (refusal 17 (pos (bb.records.count + mb.records.count) ∷ []))) (built first second output count_width s m (bb.records.count + mb.records.count) (clip_refusal s m))

    by-test : (b : Bool) → (ltb (length first) (bb.records.count + mb.records.count) || ltb (length second) (bb.records.count + mb.records.count)) ≡ b → slices_tested first second output count_width s m ((bones s m).additional + (morphs s m).additional) ≡ tested b
    unfolding tested
    by-test b e = rw (counted, e)

    too_short : (ltb (length first) (bb.records.count + mb.records.count) || ltb (length second) (bb.records.count + mb.records.count)) ≡ true → LeavesOutcome (slices_tested first second output count_width s m ((bones s m).additional + (morphs s m).additional)) (Err (StripRefusal.WorkTooShort (bb.records.count + mb.records.count))) first second output
    unfolding tested
    too_short e =
        let o = by-test true e in
        record {
          answers = sym (ap (λ (x : Outcome). x.answer) o);
          leaves_first = sym (ap (λ (x : Outcome). x.first) o);
          leaves_second = sym (ap (λ (x : Outcome). x.second) o);
          leaves_output = sym (ap (λ (x : Outcome). x.output) o);
        }

    pub first_short : length first < bb.records.count + mb.records.count → LeavesOutcome (slices_tested first second output count_width s m ((bones s m).additional + (morphs s m).additional)) (Err (StripRefusal.WorkTooShort (bb.records.count + mb.records.count))) first second output
    first_short less = too_short (rw (lt-ltb (length first) (bb.records.count + mb.records.count) less))

    pub second_short : bb.records.count + mb.records.count ≤ length first → length second < bb.records.count + mb.records.count → LeavesOutcome (slices_tested first second output count_width s m ((bones s m).additional + (morphs s m).additional)) (Err (StripRefusal.WorkTooShort (bb.records.count + mb.records.count))) first second output
    second_short fits less = too_short (rw (le-ltb (length first) (bb.records.count + mb.records.count) fits, lt-ltb (length second) (bb.records.count + mb.records.count) less))

    pub long-enough : {r : Result BuiltAnswer StripRefusal} {first' second' output' : List ℕ} → bb.records.count + mb.records.count ≤ length first → bb.records.count + mb.records.count ≤ length second → LeavesOutcome (outcome_of first second output (bb.records.count + mb.records.count) (parts_of s bb mb)) r first' second' output' → LeavesOutcome (slices_tested first second output count_width s m ((bones s m).additional + (morphs s m).additional)) r first' second' output'
    unfolding tested
    long-enough {r} {first'} {second'} {output'} room₁ room₂ says =
        let o = by-test false (rw (le-ltb (length first) (bb.records.count + mb.records.count) room₁, le-ltb (length second) (bb.records.count + mb.records.count) room₂)) in
        let parts : built first second output count_width s m (bb.records.count + mb.records.count) (clip_refusal s m) ≡ outcome_of first second output (bb.records.count + mb.records.count) (parts_of s bb mb) =
        same_outcome s m first second output (bb.records.count + mb.records.count) ∙ ap (λ (k : Block). outcome_of first second output (bb.records.count + mb.records.count) (parts_of s k (morph_block m))) (sym eb) ∙ ap (λ (k : Block). outcome_of first second output (bb.records.count + mb.records.count) (parts_of s bb k)) (sym em) in
        subst (λ (x : Outcome). LeavesOutcome x r first' second' output') (sym (o ∙ parts)) says

module _ (s : List ℕ) (start : ℕ) (first second output : List ℕ) where
  pub not-read : (why : Refusal) → refused (reading_refusal why) ≡ model_section edition1 s start → LeavesOutcome (strip_call edition1 count_width s start first second output) (Err (StripRefusal.Reading why)) first second output
  unfolding strip_call
  not-read why read =
      let walk = sym read in
      record { answers = rw walk; leaves_first = rw walk; leaves_second = rw walk; leaves_output = rw walk }

  module _ (m : Model) (end : ℕ) (read : fine m end ≡ model_section edition1 s start) where
    pub read-says : (r : Result BuiltAnswer StripRefusal) (first' second' output' : List ℕ) → LeavesOutcome (slices_tested first second output count_width s m ((bones s m).additional + (morphs s m).additional)) r first' second' output' → LeavesOutcome (strip_call edition1 count_width s start first second output) r first' second' output'
    unfolding strip_call
    read-says r first' second' output' says = rw (← read) says

pub ruleset refusals = (not-read, first_short, second_short)
