-- The pass over sorted slots: `Passed` says that the answer so far is the least slot, of the places passed, that stands right behind one
-- with an equal number. Where numbers rise, a slot with the number of any before it has that of the one right before it. Assumes nothing.
use Prim.Native.Nat.{ℕ, ◌+◌, ◌-◌, ◌≤◌, ◌<◌, min}
use native.Mathlib.Decide.{dec_lt}
use native.Mathlib.Omega.{arith}
use mathlib.Core.Bool.{Bool, true, false}
use mathlib.Core.List.{List}
use mathlib.Core.Path.{◌≡◌, sym, subst, ◌∙◌}
use borrow.Author.Tests.{eqb-true, eqb-false}
use lib.Dec.{eqb}
use lib.ListN.{length, get_or}
use Rattle.order.specs.Find.{NumbersRise}
use Rattle.order.specs.Repeat.{number_at, Behind}
use Rattle.order.specs.declared.field.Field.{Field}
use Rattle.order.proofs.Times.{equal_or_not}

module _ (s : List ℕ) (f : Field) (xs : List ℕ) where
  -- What `equals_before` told of the slot at i.
  module _ (i : ℕ) (told : Bool) (is : told ≡ eqb (number_at s f xs (i - 1)) (number_at s f xs i)) where
    pub behind-told : 0 < i → i < length xs → told ≡ true → Behind s f xs i
    behind-told later inside taken = record { later = later; inside = inside; equal = eqb-true _ _ (sym is ∙ taken) }

    pub not_behind : told ≡ false → Behind s f xs i → ⊥
    not_behind left behind = eqb-false _ _ (sym is ∙ left) behind.equal

  -- `LeastBehind` of the places before i.
  pub record Passed (n m i : ℕ) : Type 0 where
    pub started : 0 < i
    pub most : m ≤ n
    pub least : (j : ℕ) → j < i → Behind s f xs j → m ≤ get_or xs j 0
    pub some : m < n → (j : ℕ) × Behind s f xs j × (get_or xs j 0 ≡ m)

  module _ (n m i : ℕ) (passed : Passed n m i) where
    -- The slot at i does not change the answer: its number is another, or it is no less.
    pub pass-over : (Behind s f xs i → m ≤ get_or xs i 0) → Passed n m (i + 1)
    pass-over no_less = record {
      started = omega arith;
      most = passed.most;
      least = λ j lt behind.
          equal_or_not j i
          (λ same. subst (λ k. m ≤ get_or xs k 0) (sym same) (no_less (subst (λ k. Behind s f xs k) same behind)))
          (λ other. passed.least j (omega (arith, other)) behind);
      some = passed.some;
    }

    pub pass-least : Behind s f xs i → {least : ℕ} → least ≡ min m (get_or xs i 0) → Passed n least (i + 1)
    pass-least here {least} is = record {
      started = omega arith;
      most = omega (arith, passed.most);
      least = λ j lt behind.
          equal_or_not j i
          (λ same. subst (λ k. least ≤ get_or xs k 0) (sym same) (omega arith))
          (λ other. let before = passed.least j (omega (arith, other)) behind in omega (arith, before));
      some = λ lt. go (dec_lt (get_or xs i 0) m) lt;
    }
      where
        go : Dec (get_or xs i 0 < m) → least < n → (j : ℕ) × Behind s f xs j × (get_or xs j 0 ≡ least)
        go (yes less) lt = (i, here, omega arith)
        go (no past) lt =
            let same : m ≡ least = omega (arith, past) in
            let before = passed.some (omega arith) in
            (before.0, before.1, before.2 ∙ same)

  -- Where numbers rise, the slot right before one with an equal number somewhere before it has that number too.
  pub behind-of : NumbersRise s f xs → (a b : ℕ) → a < b → b < length xs → number_at s f xs a ≡ number_at s f xs b → Behind s f xs b
  behind-of rise a b lt inside same = record {
    later = omega arith;
    inside = inside;
    equal =
        let upper = rise (b - 1) b (omega arith) inside in
        equal_or_not a (b - 1)
        (λ next. subst (λ k. number_at s f xs k ≡ number_at s f xs b) next same)
        (λ other. let lower = rise a (b - 1) (omega (arith, other)) (omega arith) in omega (arith, lower, upper));
  }
