-- The index scan from two numbers, how many records in front are in range and the first whose index an earlier one has: nothing is met
-- before both, so the smaller says what is met first, and at one record 3 and 4 come before 5. Assumes nothing.
use Prim.Native.Nat.{ℕ, ◌≤◌, ◌<◌, ◌^◌}
use native.Mathlib.Omega.{arith}
use mathlib.Core.Bool.{Bool, true, false, cond}
use mathlib.Core.List.{List, [], ◌∷◌}
use mathlib.Core.Logic.{◌⊎◌, inl, inr}
use mathlib.Core.Option.{none, some}
use mathlib.Core.Path.{◌≡◌, refl, sym, ◌∙◌}
use borrow.Author.Tests.{le-leb, lt-leb, lt-ltb, le-ltb, ltb-true, ltb-false, eq-eqb, ne_eqb}
use lib.Dec.{eqb, ltb}
use lib.IntN.{ℤ, pos}
use Rattle.order.specs.Field.{number_of}
use Rattle.order.specs.Repeat.{FirstRepeat, up_to}
use Rattle.order.specs.Sorted.{Sorted, times}
use Rattle.order.proofs.Counted.{up_to-below, up_to-once, up_to-has, up_to-none}
use Rattle.order.proofs.Laws.{sorted-strictly}
use Rattle.layout.specs.Numbers.{signed}
use Rattle.layout.specs.Walk.{Refusal}
use Rattle.clip.specs.First.{first_met}
use Rattle.clip.specs.Fields.{refusal_of}
use Rattle.clip.specs.Scan.{index_refusal, scan}
use Rattle.clip.specs.Section.{additional_at}
use Rattle.clip.proofs.First.{none_or, none-given, none_first, false-any, true-any, first-met}
use Rattle.clip.proofs.Indexed.{scanned}
use Rattle.blocks.specs.Kind.{kind_of}
use Rattle.blocks.specs.Block.{Fits, links}
use Rattle.chains.specs.Lookup.{Ordered}
use Rattle.chains.specs.Scan.{InRange}
use Rattle.blocks.specs.declared.block.Block.{Block}
use Rattle.chains.proofs.ByIndex.{index-field, is-by_index}

module _ (s : List ℕ) (b : Block) where
  module _ (n : ℕ) (ranged : InRange s b n) (m : ℕ) (repeat : FirstRepeat (number_of s b.records) b.records.count m) where
    -- Before both, nothing is met.
    fine : (p : ℕ) → p < n → p < m → index_refusal (kind_of b.kind) (links s b) p ≡ none
    unfolding index_refusal number_of additional_at
    fine p ln lm =
        let low = ranged.positive p ln in
        none_or _ _ (none-given _ _ (lt-leb (2 ^ 31) ((links s b).at p).index (omega (arith, low))))
        (none_or _ _ (none-given _ _ (le-ltb ((links s b).at p).index b.initials.count (ranged.above p ln)))
        (none-given _ _ (false-any (λ q. eqb ((links s b).at q).index ((links s b).at p).index) p (λ q less. ne_eqb ((links s b).at q).index ((links s b).at p).index (repeat.apart q p less lm)))))

    all-fine : (k : ℕ) → k ≤ n → k ≤ m → first_met k (index_refusal (kind_of b.kind) (links s b)) ≡ none
    all-fine k kn km = none_first k (index_refusal (kind_of b.kind) (links s b)) (λ p lt. fine p (omega arith) (omega arith))

    pub scan-repeated : m < n → {bits : ℕ} → bits ≡ ((links s b).at m).index → {z : ℤ} → z ≡ signed bits → some (refusal_of (kind_of b.kind) 5 (z ∷ [])) ≡ scan (kind_of b.kind) (links s b)
    unfolding scan index_refusal number_of additional_at
    scan-repeated lt {bits} is reads =
        let low = ranged.positive m lt in
        let inside = ranged.most in
        let a = repeat.again (omega (arith, inside)) in
        let seen = true-any (λ q. eqb ((links s b).at q).index ((links s b).at m).index) m a.0 a.1 (eq-eqb ((links s b).at a.0).index ((links s b).at m).index a.2) in
        rw reads
        (sym (first-met b.records.count (index_refusal (kind_of b.kind) (links s b)) m (refusal_of (kind_of b.kind) 5 (signed bits ∷ [])) (omega (arith, inside)) (all-fine m (omega arith) (omega arith))
        (rw (lt-leb (2 ^ 31) ((links s b).at m).index (omega (arith, low)), le-ltb ((links s b).at m).index b.initials.count (ranged.above m lt), seen, sym is))))

    module _ (first_out : n ≤ m) (more : n < b.records.count) {bits : ℕ} (is : bits ≡ ((links s b).at n).index) {z : ℤ} (reads : z ≡ signed bits) where
      pub scan-negative : 2147483648 ≤ bits → some (refusal_of (kind_of b.kind) 3 (z ∷ [])) ≡ scan (kind_of b.kind) (links s b)
      unfolding scan index_refusal
      scan-negative high =
          rw reads
          (sym (first-met b.records.count (index_refusal (kind_of b.kind) (links s b)) n (refusal_of (kind_of b.kind) 3 (signed bits ∷ [])) more (all-fine n (omega arith) first_out)
          (rw (sym is, le-leb (2 ^ 31) bits high))))

      pub scan-low : bits < 2147483648 → some (refusal_of (kind_of b.kind) 4 (z ∷ pos b.initials.count ∷ [])) ≡ scan (kind_of b.kind) (links s b)
      unfolding scan index_refusal
      scan-low low =
          rw reads
          (sym (first-met b.records.count (index_refusal (kind_of b.kind) (links s b)) n (refusal_of (kind_of b.kind) 4 (signed bits ∷ pos b.initials.count ∷ [])) more (all-fine n (omega arith) first_out)
          (go (ranged.next more))))
        where
          go : (2147483648 ≤ ((links s b).at n).index) ⊎ (((links s b).at n).index < b.initials.count) → index_refusal (kind_of b.kind) (links s b) n ≡ some (refusal_of (kind_of b.kind) 4 (signed bits ∷ pos b.initials.count ∷ []))
          go (inl high) = absurd (omega (arith, high, is, low))
          go (inr below) = rw (sym is, lt-leb (2 ^ 31) bits low, lt-ltb bits b.initials.count (omega (arith, below, is)))

    pub scan-passes : n ≤ m → b.records.count ≤ n → none ≡ scan (kind_of b.kind) (links s b)
    unfolding scan
    scan-passes first_out all = sym (all-fine b.records.count all (omega arith))

  pub scan-orders : Fits s b → (slots : List ℕ) → Sorted s b.records (up_to b.records.count) slots → scan (kind_of b.kind) (links s b) ≡ none → Ordered s b slots
  scan-orders fits slots sorted passes =
      let count = b.records.count in
      let few = fits.few_records in
      record {
        fits = fits;
        indexed = scanned (kind_of b.kind) (links s b) passes;
        positions = is-by_index s b fits count slots (omega (arith, few)) (λ x. sorted.same x ∙ once x (ltb x count) refl)
            (sorted-strictly s b.records (up_to count) slots sorted (index-field s b fits) (up_to-below count count (omega arith)) (up_to-once count));
      }
    where
      once : (x : ℕ) (c : Bool) → ltb x b.records.count ≡ c → times x (up_to b.records.count) ≡ cond (ltb x b.records.count) 1 0
      once x true e =
          let some = up_to-has b.records.count x (ltb-true x b.records.count e) in
          let most = up_to-once b.records.count x in
          rw e (omega (arith, some, most))
      once x false e = rw e (up_to-none b.records.count x (ltb-false x b.records.count e))

  pub scan-refuses : (why : Refusal) → some why ≡ scan (kind_of b.kind) (links s b) → (slots : List ℕ) → scan (kind_of b.kind) (links s b) ≡ none → Ordered s b slots
  scan-refuses why refused slots passes = absurd (let z : ◌≡◌ {A = ℕ} 0 1 = cc in omega arith)

-- The records so far are in range.
pub record Ranging (s : List ℕ) (b : Block) (p : ℕ) : Type 0 where
  pub most : p ≤ b.records.count
  pub positive : (q : ℕ) → q < p → ((links s b).at q).index < 2147483648
  pub above : (q : ℕ) → q < p → b.initials.count ≤ ((links s b).at q).index
