-- Equal numbers among sorted slots stand side by side, the larger position behind, because among equal numbers the key goes by the
-- position; and each slot of one order has a place in the other. Assumes nothing.
use Prim.Native.Nat.{ℕ, ◌-◌, ◌≤◌, ◌<◌}
use native.Mathlib.Omega.{arith}
use mathlib.Core.List.{List}
use mathlib.Core.Path.{◌≡◌, sym, ap, subst, ◌∙◌}
use lib.ListN.{length, get_or}
use Rattle.order.specs.Field.{number_of, key_of, Within, AllBelow}
use Rattle.order.specs.Sorted.{times, Sorted}
use Rattle.order.specs.Repeat.{number_at, Behind}
use Rattle.order.specs.declared.field.Field.{Field}
use Rattle.order.proofs.Laws.{sorted-numbers, sorted-strictly}
use Rattle.order.proofs.Neighbours.{behind-of}
use Rattle.order.proofs.Times.{Place, place_of, times-some, less-or-more}

module _ (s : List ℕ) (f : Field) (within : Within s f) (before after : List ℕ) (sorted : Sorted s f before after) (below : AllBelow f.count before) (once : (x : ℕ) → times x before ≤ 1) where
  -- Where a number of one list stands in the other.
  pub there : (x : ℕ) → 0 < times x before → Place x after
  there x some = place_of x after (omega (arith, sorted.same x))

  pub back : (i : ℕ) → i < length after → Place (get_or after i 0) before
  back i lt =
      let some = times-some after i lt in
      place_of (get_or after i 0) before (omega (arith, some, sorted.same (get_or after i 0)))

  -- Of two records with equal numbers, that with the larger position stands right behind one with its number.
  pub later-behind : (p q : ℕ) → p < q → 0 < times p before → 0 < times q before → number_of s f p ≡ number_of s f q → (i : ℕ) × Behind s f after i × (get_or after i 0 ≡ q)
  unfolding key_of
  later-behind p q lt some-p some-q same =
      let a = there p some-p in
      let b = there q some-q in
      let strictly = sorted-strictly s f before after sorted within below once in
      let apart : a.place ≡ b.place → ⊥ = λ e.
      let both : p ≡ q = sym a.is ∙ ap (λ i. get_or after i 0) e ∙ b.is in omega arith in
      let first : a.place < b.place = less-or-more a.place b.place apart (λ less. less)
      (λ more.
      let falls = strictly b.place a.place more a.inside in
      let falls' : key_of s f q < key_of s f p = subst (λ k. key_of s f q < key_of s f k) a.is (subst (λ k. key_of s f k < key_of s f (get_or after a.place 0)) b.is falls) in
      absurd (omega (arith, falls', same))) in
      let numbers : number_at s f after a.place ≡ number_at s f after b.place = ap (number_of s f) a.is ∙ same ∙ sym (ap (number_of s f) b.is) in
      (b.place, behind-of s f after (sorted-numbers s f before after sorted within below) a.place b.place first b.inside numbers, b.is)

  -- Right behind a record with an equal number stands one with a larger position.
  pub behind-later : (i : ℕ) → Behind s f after i → get_or after (i - 1) 0 < get_or after i 0
  unfolding key_of
  behind-later i behind =
      let up = sorted-strictly s f before after sorted within below once (i - 1) i (omega (arith, behind.later)) behind.inside in
      omega (arith, up, behind.equal)
