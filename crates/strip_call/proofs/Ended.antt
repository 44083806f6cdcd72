-- How an accepted run ends: each work slice holds the bones' part and then the morphs' and is otherwise as it was (`both-over`), reached
-- and loose are the sums of both kinds, and the output begins with the strip. Assumes nothing.
use Prim.Native.Nat.{ℕ, ◌+◌, ◌≤◌}
use native.Mathlib.Omega.{arith}
use mathlib.Core.List.{List, ◌++◌}
use mathlib.Core.Option.{none}
use mathlib.Core.Path.{◌≡◌, sym, ap, ◌∙◌}
use borrow.Author.Tests.{le-ltb}
use lib.ListN.{length, take, drop, take-append-drop}
use lib.Seq.{take-add, length-take-le}
use Rattle.layout.specs.Walk.{Answer, answered}
use Rattle.keys.specs.Placed.{Wrote}
use Rattle.keys.proofs.Placing.{placed_first}
use Rattle.strip.specs.Call.{Built, over}
use Rattle.blocks.specs.declared.block.Block.{Block}
use Rattle.strip_call.specs.Parts.{part, Outside}
use Rattle.strip_call.specs.Answers.{LeavesOutcome}
use Rattle.std.specs.Prelude.{Ok}
use Rattle.strip_call.specs.Building.{ClipPassed}
use Rattle.strip_call.specs.Outcomes.{outcome_of, parts_of}
use Rattle.strip_call.specs.Bytes.{strip_bytes}

same_answer : (l l' r r' k k' : ℕ) → l ≡ l' → r ≡ r' → k ≡ k' → ◌≡◌ {A = Answer Built} (answered (record { strip_length = l; reached = r; loose = k })) (answered (record { strip_length = l'; reached = r'; loose = k' }))
same_answer l l' r r' k k' el er ek = rw (el, er, ek)

-- Two parts written, and nothing else.
both-over : (a n : ℕ) (xs ys before after : List ℕ) → part 0 a after ≡ xs → part a n after ≡ ys → Outside 0 (a + n) before after → a + n ≤ length before → after ≡ over (xs ++ ys) before
both-over a n xs ys before after ex ey o room =
    let long = o.same in
    let lx : length xs ≡ a = sym (ap length ex) ∙ length-take-le a after (omega (arith, room, long)) in
    let whole : take (a + n) after ≡ xs ++ ys = take-add a n after ∙ ap (λ (l : List ℕ). l ++ take n (drop a after)) ex ∙ ap (λ (l : List ℕ). xs ++ l) ey in
    let size : length (xs ++ ys) ≡ a + n = sym (ap length whole) ∙ length-take-le (a + n) after (omega (arith, room, long)) in
    let plain : 0 + (a + n) ≡ a + n = omega arith in
    let rest : drop (a + n) after ≡ drop (length (xs ++ ys)) before = sym (ap (λ (k : ℕ). drop k after) plain) ∙ o.back ∙ ap (λ (k : ℕ). drop k before) plain ∙ sym (ap (λ (k : ℕ). drop k before) size) in
    sym (take-append-drop (a + n) after) ∙ ap (λ (l : List ℕ). l ++ drop (a + n) after) whole ∙ ap (λ (l : List ℕ). xs ++ ys ++ l) rest

module _ (s : List ℕ) (bones morphs : Block) {first second first₁ second₁ : List ℕ} (o₁ : Outside 0 (bones.records.count + morphs.records.count) first first₁) (o₂ : Outside 0 (bones.records.count + morphs.records.count) second second₁) where
  module _ {reached left : ℕ} (passed : ClipPassed s bones morphs first₁ second₁ reached left) where
    met-none : (parts_of s bones morphs).met ≡ none
    met-none = rw (passed.of_bones.meets, passed.of_morphs.meets)

    pub written-says : bones.records.count + morphs.records.count ≤ length first → bones.records.count + morphs.records.count ≤ length second → {output output' : List ℕ} {end : ℕ} → length (strip_bytes s bones morphs) ≤ length output → Wrote 0 (strip_bytes s bones morphs) output end output' → LeavesOutcome (outcome_of first second output (bones.records.count + morphs.records.count) (parts_of s bones morphs)) (Ok (record { strip_length = end; reached = reached; loose = left })) first₁ second₁ output'
    written-says room₁ room₂ {output} {output'} {end} fits w =
        let wide = le-ltb (length output) (length (strip_bytes s bones morphs)) fits in
        let ends = w.ends in
        let long : end ≡ length (strip_bytes s bones morphs) = omega (arith, ends) in
        let c = passed in
        let f₁ = both-over bones.records.count morphs.records.count _ _ first first₁ c.of_bones.ordered.positions c.of_morphs.ordered.positions o₁ room₁ in
        let f₂ = both-over bones.records.count morphs.records.count _ _ second second₁ c.of_bones.marked c.of_morphs.marked o₂ room₂ in
        let r₁ = c.of_bones.followed in
        let r₂ = c.of_morphs.followed in
        let l₁ = c.of_bones.unreached in
        let l₂ = c.of_morphs.unreached in
        let all = c.all_reached in
        let rest = c.all_loose in
        let er : reached ≡ (parts_of s bones morphs).reached = omega (arith, all, r₁, r₂) in
        let el : left ≡ (parts_of s bones morphs).loose_count = omega (arith, rest, l₁, l₂) in
        let out : output' ≡ over (strip_bytes s bones morphs) output = w.leaves ∙ placed_first (strip_bytes s bones morphs) output in
        record {
          answers = rw (met-none, wide) (same_answer end (length (strip_bytes s bones morphs)) reached _ left _ long er el);
          leaves_first = rw (met-none, wide) f₁;
          leaves_second = rw (met-none, wide) f₂;
          leaves_output = rw (met-none, wide) out;
        }
