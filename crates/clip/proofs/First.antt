-- What is met first, found or passed among 0, .., n - 1 (specs, First), by induction on n: a number below n + 1 is the last one or is below
-- it (`below_suc`). Assumes nothing.
use Prim.Native.Nat.{ℕ, zero, suc, ◌+◌, ◌<◌}
use native.Mathlib.Numerals.{add-one}
use native.Mathlib.Decide.{ℕ_discrete}
use native.Mathlib.Omega.{arith}
use mathlib.Core.Bool.{Bool, true, false, ◌||◌}
use mathlib.Core.Option.{Option, none, some}
use mathlib.Core.Path.{◌≡◌, refl, subst}
use Rattle.clip.specs.First.{given, ◌or◌, first_met, any}

-- A number below the next one: it is the last, or below it.
pub below_suc : {P : Type 0} (i n : ℕ) → i < suc n → (i ≡ n → P) → (i < n → P) → P
below_suc {P} i n lt last less = go (ℕ_discrete i n)
  where
    go : Dec (i ≡ n) → P
    go (yes e) = last e
    go (no ne) = less (omega (arith, ne))

pub or-true : (a b : Bool) → (a || b) ≡ true → {P : Type 0} → (a ≡ true → P) → (b ≡ true → P) → P
or-true true b e l r = l refl
or-true false b e l r = r e

pub or-false : (a b : Bool) → (a || b) ≡ false → (a ≡ false) × (b ≡ false)
or-false false b e = (refl, e)
or-false true b e = absurd (let z : ◌≡◌ {A = ℕ} 0 1 = cc in omega arith)

pub true-or : (a b : Bool) → b ≡ true → (a || b) ≡ true
true-or true b e = refl
true-or false b e = e

pub contrary : {P : Type 0} (b : Bool) → b ≡ true → b ≡ false → P
contrary b t f = absurd (let z : ◌≡◌ {A = ℕ} 0 1 = cc in omega arith)

module _ {A : Type 0} where
  pub or-none : (x y : Option A) → (x or y) ≡ none → (x ≡ none) × (y ≡ none)
  or-none none y e = (refl, e)
  or-none (some a) y e = absurd (let z : ◌≡◌ {A = ℕ} 0 1 = cc in omega arith)

  pub none_or : (x y : Option A) → x ≡ none → y ≡ none → (x or y) ≡ none
  none_or x y ex ey = rw ex ey

  pub given-none : (b : Bool) (a : A) → given b a ≡ none → b ≡ false
  given-none false a e = refl
  given-none true a e = absurd (let z : ◌≡◌ {A = ℕ} 0 1 = cc in omega arith)

  pub none-given : (b : Bool) (a : A) → b ≡ false → given b a ≡ none
  none-given b a e = rw e

  pub given-some : (b : Bool) (a c : A) → given b a ≡ some c → (b ≡ true) × (a ≡ c)
  given-some true a c e = (refl, cc)
  given-some false a c e = absurd (let z : ◌≡◌ {A = ℕ} 0 1 = cc in omega arith)

  pub first-none : (n : ℕ) (f : ℕ → Option A) → first_met n f ≡ none → (i : ℕ) → i < n → f i ≡ none
  unfolding first_met
  first-none zero f e i lt = absurd (omega arith)
  first-none (suc n) f e i lt =
      let both = or-none (first_met n f) (f n) e in
      below_suc i n lt (λ last. rw last both.1) (λ less. first-none n f both.0 i less)

  pub none_first : (n : ℕ) (f : ℕ → Option A) → ((i : ℕ) → i < n → f i ≡ none) → first_met n f ≡ none
  unfolding first_met
  none_first zero f h = refl
  none_first (suc n) f h = none_or (first_met n f) (f n) (none_first n f (λ i lt. h i (omega arith))) (h n (omega arith))

  -- What was found stands somewhere below.
  pub record Found (n : ℕ) (f : ℕ → Option A) (a : A) : Type 0 where
    pub place : ℕ
    pub below : place < n
    pub is : f place ≡ some a

  pub first_some : (n : ℕ) (f : ℕ → Option A) (a : A) → first_met n f ≡ some a → Found n f a
  unfolding first_met
  first_some zero f a e = absurd (let z : ◌≡◌ {A = ℕ} 0 1 = cc in omega arith)
  first_some (suc n) f a e = go (first_met n f) (first_some n f a) e
    where
      go : (x : Option A) → (x ≡ some a → Found n f a) → (x or f n) ≡ some a → Found (suc n) f a
      go none earlier e = record { place = n; below = omega arith; is = e }
      go (some b) earlier e = let at = earlier e in record { place = at.place; below = omega (arith, at.below); is = at.is }

  -- The only one that there is, is found.
  pub first-only : (n : ℕ) (f : ℕ → Option A) (a : A) (i : ℕ) → i < n → f i ≡ some a → ((j : ℕ) → j < n → (j ≡ i → ⊥) → f j ≡ none) → first_met n f ≡ some a
  unfolding first_met
  first-only zero f a i lt e h = absurd (omega arith)
  first-only (suc n) f a i lt e h =
      below_suc i n lt
      (λ last. rw (none_first n f (λ j less. h j (omega arith) (λ same. omega arith))) (subst (λ k. f k ≡ some a) last e))
      (λ less. rw (first-only n f a i less e (λ j below apart. h j (omega arith) apart)))

module _ (f : ℕ → Bool) where
  pub any_false : (n : ℕ) → any n f ≡ false → (i : ℕ) → i < n → f i ≡ false
  unfolding any
  any_false zero e i lt = absurd (omega arith)
  any_false (suc n) e i lt =
      let both = or-false (any n f) (f n) e in
      below_suc i n lt (λ last. rw last both.1) (λ less. any_false n both.0 i less)

  pub false-any : (n : ℕ) → ((i : ℕ) → i < n → f i ≡ false) → any n f ≡ false
  unfolding any
  false-any zero h = refl
  false-any (suc n) h = rw (false-any n (λ i lt. h i (omega arith))) (h n (omega arith))

  pub true-any : (n i : ℕ) → i < n → f i ≡ true → any n f ≡ true
  unfolding any
  true-any zero i lt e = absurd (omega arith)
  true-any (suc n) i lt e =
      below_suc i n lt (λ last. true-or (any n f) (f n) (subst (λ k. f k ≡ true) last e)) (λ less. rw (true-any n i less e))

  pub record Passes (n : ℕ) : Type 0 where
    pub place : ℕ
    pub below : place < n
    pub is : f place ≡ true

  pub any-true : (n : ℕ) → any n f ≡ true → Passes n
  unfolding any
  any-true zero e = absurd (let z : ◌≡◌ {A = ℕ} 0 1 = cc in omega arith)
  any-true (suc n) e =
      or-true (any n f) (f n) e
      (λ before. let p = any-true n before in record { place = p.place; below = omega (arith, p.below); is = p.is })
      (λ last. record { place = n; below = omega arith; is = last })

-- The first that is met after none was met before.
pub first-met : {A : Type 0} (n : ℕ) (f : ℕ → Option A) (i : ℕ) (a : A) → i < n → first_met i f ≡ none → f i ≡ some a → first_met n f ≡ some a
unfolding first_met
first-met zero f i a lt before is = absurd (omega arith)
first-met (suc n) f i a lt before is =
    below_suc i n lt
    (λ last. rw (subst (λ k. first_met k f ≡ none) last before) (subst (λ k. f k ≡ some a) last is))
    (λ less. rw (first-met n f i a less before is))

pub first_more : {A : Type 0} (n : ℕ) (f : ℕ → Option A) → first_met n f ≡ none → f n ≡ none → first_met (n + 1) f ≡ none
unfolding first_met
first_more n f before is = rw (add-one, before) is
