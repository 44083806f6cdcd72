-- Of a number that stands more than once among sorted slots the first two slots differ, as no position stands twice, until it is met: then
-- they are made equal. So a number is marked exactly if it was met (`MetFirst`). Assumes nothing.
use Prim.Native.Nat.{ℕ, zero, suc, ◌+◌, ◌≤◌, ◌<◌}
use native.Mathlib.Decide.{ℕ_discrete}
use native.Mathlib.Omega.{arith}
use mathlib.Core.Bool.{Bool, true, false}
use mathlib.Core.List.{List}
use mathlib.Core.Path.{◌≡◌, refl, sym, ap, subst, ◌∙◌}
use lib.ListN as list
use lib.ListN.{length, get_or}
use Rattle.order.specs.Field.{number_of, Within, AllBelow}
use Rattle.order.specs.Sorted.{times, Sorted}
use Rattle.order.specs.Find.{NumbersRise}
use Rattle.order.specs.Repeat.{number_at}
use Rattle.order.specs.Met.{Twice, Marked, Meets}
use Rattle.order.specs.declared.field.Field.{Field}
use Rattle.order.proofs.Equals.{there}
use Rattle.order.proofs.FirstPlaces.{two-same, two-of}
use Rattle.order.proofs.Laws.{sorted-below, sorted-numbers}
use Rattle.order.proofs.Times.{equal_or_not, less-or-more, times-some, times-two}

-- A place below i where a function has a value.
earlier : (h : ℕ → ℕ) (x i : ℕ) → Dec ((k : ℕ) × (k < i) × (h k ≡ x))
earlier h x zero = no (λ at. omega (arith, at.1))
earlier h x (suc i) = go (earlier h x i) (ℕ_discrete (h i) x)
  where
    go : Dec ((k : ℕ) × (k < i) × (h k ≡ x)) → Dec (h i ≡ x) → Dec ((k : ℕ) × (k < suc i) × (h k ≡ x))
    go (yes at) here = yes (at.0, omega (arith, at.1), at.2)
    go (no none) (yes e) = yes (i, omega arith, e)
    go (no none) (no ne) = no (λ at. equal_or_not at.0 i (λ same. ne (sym (ap h same) ∙ at.2)) (λ other. none (at.0, omega (arith, at.1, other), at.2)))

-- The numbers of the first i slots, as they stood before, are met.
pub record MetFirst (s : List ℕ) (f : Field) (before after xs : List ℕ) (i : ℕ) : Type 0 where
  pub as_many : length xs ≡ length after
  pub below : AllBelow f.count xs
  pub numbers : (j : ℕ) → number_at s f xs j ≡ number_at s f after j
  pub fresh : (j : ℕ) → ((k : ℕ) → k < i → number_at s f before k ≡ number_at s f after j → ⊥) → get_or xs j 0 ≡ get_or after j 0
  pub marked : (k j : ℕ) → k < i → Twice (number_at s f after) (length after) (number_at s f before k) j → get_or xs j 0 ≡ get_or xs (j + 1) 0

module _ (s : List ℕ) (f : Field) (within : Within s f) (before after : List ℕ) (sorted : Sorted s f before after) (below : AllBelow f.count before) (once : (x : ℕ) → times x before ≤ 1) where
  pub met-none : MetFirst s f before after after 0
  met-none = record {
    as_many = refl;
    below = sorted-below s f before after sorted f.count below;
    numbers = λ j. refl;
    fresh = λ j none. refl;
    marked = λ k j lt two. absurd (omega arith);
  }

  module _ (xs : List ℕ) (i : ℕ) (m : MetFirst s f before after xs i) where
    rise : NumbersRise s f after
    rise = sorted-numbers s f before after sorted within below

    pub met-rise : NumbersRise s f xs
    met-rise a b lt inside = let up = rise a b lt (omega (arith, m.as_many, inside)) in omega (arith, up, m.numbers a, m.numbers b)

    as-sorted : (number j : ℕ) → Twice (number_at s f xs) (length xs) number j → Twice (number_at s f after) (length after) number j
    as-sorted number = two-same (number_at s f xs) (length xs) number (number_at s f after) (length after) m.numbers m.as_many

    as-now : (number j : ℕ) → Twice (number_at s f after) (length after) number j → Twice (number_at s f xs) (length xs) number j
    as-now number = two-same (number_at s f after) (length after) number (number_at s f xs) (length xs) (λ k. sym (m.numbers k)) (sym m.as_many)

    module _ (number : ℕ) (is : number ≡ number_at s f before i) (ys : List ℕ) (r : Bool) (meets : Meets s f number xs ys r) where
      pub met-more : MetFirst s f before after ys (i + 1)
      met-more = record {
        as_many = meets.as_many ∙ m.as_many;
        below = meets.below;
        numbers = λ j. meets.numbers j ∙ m.numbers j;
        fresh = λ j none.
            meets.others j (λ same. none i (omega arith) (sym is ∙ sym same ∙ m.numbers j))
            ∙ m.fresh j (λ k lt. none k (omega arith));
        marked = λ k j lt two.
            equal_or_not (number_at s f before k) number
            (λ same. meets.mark j (as-now number j (subst (λ x. Twice (number_at s f after) (length after) x j) same two)))
            (λ other.
            let apart : k ≡ i → ⊥ = λ e. other (ap (number_at s f before) e ∙ sym is) in
            meets.others j (λ e. other (sym two.here ∙ sym (m.numbers j) ∙ e))
            ∙ m.marked k j (omega (arith, apart)) two
            ∙ sym (meets.others (j + 1) (λ e. other (sym two.next ∙ sym (m.numbers (j + 1)) ∙ e))));
      }

      -- A number that is marked was met before.
      pub met-before : r ≡ true → (k : ℕ) × (k < i) × (number_at s f before k ≡ number)
      met-before taken = go (earlier (number_at s f before) number i)
        where
          told : Marked s f xs number true
          told = subst (Marked s f xs number) taken meets.told

          go : Dec ((k : ℕ) × (k < i) × (number_at s f before k ≡ number)) → (k : ℕ) × (k < i) × (number_at s f before k ≡ number)
          go (yes at) = at
          go (no none) =
              let j = told.0 in
              let two = as-sorted number j told.1 in
              let a = m.fresh j (λ k lt e. none (k, lt, e ∙ two.here)) in
              let b = m.fresh (j + 1) (λ k lt e. none (k, lt, e ∙ two.next)) in
              let equal = times-two after j (j + 1) (omega arith) two.inside (sym a ∙ told.2 ∙ b) in
              absurd (omega (arith, equal, sorted.same (get_or after (j + 1) 0), once (get_or after (j + 1) 0)))

      -- A number that is not marked was not met, as it would stand at two places.
      pub met-never : r ≡ false → i < length before → (k : ℕ) → k < i → number_at s f before k ≡ number → ⊥
      met-never left inside k lt same =
          let a = there s f within before after sorted below once (get_or before k 0) (times-some before k (omega arith)) in
          let b = there s f within before after sorted below once (get_or before i 0) (times-some before i inside) in
          let at_a : number_at s f after a.place ≡ number = ap (number_of s f) a.is ∙ same in
          let at_b : number_at s f after b.place ≡ number = ap (number_of s f) b.is ∙ sym is in
          let apart : a.place ≡ b.place → ⊥ = λ e.
          let equal = times-two before k i lt inside (sym a.is ∙ ap (λ j. get_or after j 0) e ∙ b.is) in omega (arith, equal, once (get_or before i 0)) in
          less-or-more a.place b.place apart
          (λ less. never (two-of (number_at s f after) (length after) number rise a.place b.place less b.inside at_a at_b))
          (λ more. never (two-of (number_at s f after) (length after) number rise b.place a.place more a.inside at_b at_a))
        where
          told : Marked s f xs number false
          told = subst (Marked s f xs number) left meets.told

          never : (j : ℕ) × Twice (number_at s f after) (length after) number j → ⊥
          never two = told two.0 (as-now number two.0 two.1) (m.marked k two.0 lt (subst (λ x. Twice (number_at s f after) (length after) x two.0) (sym same) two.1))
