-- How many numbers below n pass a test (specs, First), by induction on n. The members of a list without repeats are as many as it is long
-- (`number-member`), those of lists that share none as many as the lists are together (`number-any`). Assumes nothing.
use Prim.Native.Nat.{ℕ, zero, suc, ◌+◌, ◌≤◌, ◌<◌}
use native.Mathlib.Omega.{arith}
use mathlib.Core.Bool.{Bool, true, false, cond, not, ◌||◌, ◌&&◌}
use mathlib.Core.List.{List, [], ◌∷◌}
use mathlib.Core.Path.{◌≡◌, refl, sym, subst}
use borrow.Author.Tests.{eqb-true, eq-eqb, ne_eqb}
use lib.Dec.{eqb}
use lib.ListN.{length}
use Rattle.clip.specs.First.{any, number, member, total}
use Rattle.clip.proofs.First.{below_suc, contrary, any-true, Passes}

-- How much a number counts.
abbrev one : Bool → ℕ
one b = cond b 1 0

pub number-cong : (n : ℕ) (f g : ℕ → Bool) → ((i : ℕ) → i < n → f i ≡ g i) → number n f ≡ number n g
unfolding number
number-cong zero f g h = refl
number-cong (suc n) f g h = rw (number-cong n f g (λ i lt. h i (omega arith)), h n (omega arith))

pub number-le : (n : ℕ) (f : ℕ → Bool) → number n f ≤ n
unfolding number
number-le zero f = omega arith
number-le (suc n) f = go (f n) (number-le n f)
  where
    go : (b : Bool) → number n f ≤ n → number n f + one b ≤ suc n
    go true less = omega arith
    go false less = omega arith

pub number-zero : (n : ℕ) (f : ℕ → Bool) → ((i : ℕ) → i < n → f i ≡ false) → number n f ≡ 0
unfolding number
number-zero zero f h = refl
number-zero (suc n) f h = rw (h n (omega arith), number-zero n f (λ i lt. h i (omega arith)))

pub none_pass : (n : ℕ) (f : ℕ → Bool) → number n f ≡ 0 → (i : ℕ) → i < n → f i ≡ false
unfolding number
none_pass zero f e i lt = absurd (omega arith)
none_pass (suc n) f e i lt = go (f n) refl e (none_pass n f)
  where
    go : (b : Bool) → f n ≡ b → number n f + one b ≡ 0 → (number n f ≡ 0 → (i : ℕ) → i < n → f i ≡ false) → f i ≡ false
    go true h e before = absurd (omega arith)
    go false h e before = below_suc i n lt (λ last. rw last h) (λ less. before (omega arith) i less)

-- Two tests that no number passes both of.
pub number-or : (n : ℕ) (f g : ℕ → Bool) → ((i : ℕ) → i < n → f i ≡ true → g i ≡ false) → number n (λ i. f i || g i) ≡ number n f + number n g
unfolding number
number-or zero f g apart = refl
number-or (suc n) f g apart = go (f n) (g n) (apart n (omega arith)) (number-or n f g (λ i lt. apart i (omega arith)))
  where
    go : (a b : Bool) → (a ≡ true → b ≡ false) → number n (λ i. f i || g i) ≡ number n f + number n g → number n (λ i. f i || g i) + one (a || b) ≡ number n f + one a + (number n g + one b)
    go true true h ih = contrary true refl (h refl)
    go true false h ih = omega arith
    go false true h ih = omega arith
    go false false h ih = omega arith

-- A test and its two ways to fail.
pub number-parts : (n : ℕ) (f g : ℕ → Bool) → number n f + (number n (λ i. not (f i) && g i) + number n (λ i. not (f i) && not (g i))) ≡ n
unfolding number
number-parts zero f g = refl
number-parts (suc n) f g = go (f n) (g n) (number-parts n f g)
  where
    go : (a b : Bool) → number n f + (number n (λ i. not (f i) && g i) + number n (λ i. not (f i) && not (g i))) ≡ n → number n f + one a + (number n (λ i. not (f i) && g i) + one (not a && b) + (number n (λ i. not (f i) && not (g i)) + one (not a && not b))) ≡ suc n
    go true true ih = omega arith
    go true false ih = omega arith
    go false true ih = omega arith
    go false false ih = omega arith

pub number-one : (n q : ℕ) → q < n → number n (λ i. eqb i q) ≡ 1
unfolding number
number-one zero q lt = absurd (omega arith)
number-one (suc n) q lt =
    below_suc q n lt
    (λ last. rw (eq-eqb n q (sym last), number-zero n (λ i. eqb i q) (λ i less. ne_eqb i q (λ same. omega arith))))
    (λ less. rw (ne_eqb n q (λ same. omega arith), number-one n q less))

-- A list of numbers below n without repeats.
abbrev pub Distinct : List ℕ → Type 0
Distinct [] = Unit {0}
Distinct (p ∷ ps) = (member p ps ≡ false) × Distinct ps

abbrev pub AllBelow : ℕ → List ℕ → Type 0
AllBelow n [] = Unit {0}
AllBelow n (p ∷ ps) = (p < n) × AllBelow n ps

pub number-member : (n : ℕ) (ps : List ℕ) → Distinct ps → AllBelow n ps → number n (λ i. member i ps) ≡ length ps
unfolding member
number-member n [] d b = number-zero n (λ i. false) (λ i lt. refl)
number-member n (p ∷ ps) d b =
    let apart : (i : ℕ) → i < n → eqb i p ≡ true → member i ps ≡ false = λ i lt e. rw (eqb-true i p e) d.0 in
    let split = number-or n (λ i. eqb i p) (λ i. member i ps) apart in
    let front = number-one n p b.0 in
    let rest = number-member n ps d.1 b.1 in
    omega (arith, split, front, rest)

pub distinct-length : (n : ℕ) (ps : List ℕ) → Distinct ps → AllBelow n ps → length ps ≤ n
distinct-length n ps d b = subst (λ k. k ≤ n) (number-member n ps d b) (number-le n (λ i. member i ps))

-- Lists of which no two share a number.
pub number-any : (n k : ℕ) (of : ℕ → List ℕ) → ((t : ℕ) → t < k → Distinct (of t)) → ((t : ℕ) → t < k → AllBelow n (of t)) → ((t u p : ℕ) → t < k → u < k → member p (of t) ≡ true → member p (of u) ≡ true → t ≡ u) → number n (λ p. any k (λ t. member p (of t))) ≡ total k (λ t. length (of t))
unfolding any total
number-any n zero of d b apart = number-zero n (λ p. false) (λ p lt. refl)
number-any n (suc k) of d b apart =
    let before = number-any n k of (λ t lt. d t (omega arith)) (λ t lt. b t (omega arith)) (λ t u p lt lu. apart t u p (omega arith) (omega arith)) in
    let last = number-member n (of k) (d k (omega arith)) (b k (omega arith)) in
    let split = number-or n (λ p. any k (λ t. member p (of t))) (λ p. member p (of k)) (λ p lt some. go p (any-true (λ t. member p (of t)) k some) (member p (of k)) refl) in
    omega (arith, before, last, split)
  where
    go : (p : ℕ) → Passes (λ t. member p (of t)) k → (b : Bool) → member p (of k) ≡ b → b ≡ false
    go p at false e = refl
    go p at true e = absurd (let same = apart at.place k p (omega (arith, at.below)) (omega arith) at.is e in omega (arith, same, at.below))

-- A sum from its front.
pub total-cong : (n : ℕ) (f g : ℕ → ℕ) → ((i : ℕ) → i < n → f i ≡ g i) → total n f ≡ total n g
unfolding total
total-cong zero f g h = refl
total-cong (suc n) f g h = rw (total-cong n f g (λ i lt. h i (omega arith)), h n (omega arith))

pub total-front : (n : ℕ) (f : ℕ → ℕ) → total (suc n) f ≡ f 0 + total n (λ i. f (suc i))
unfolding total
total-front zero f = omega arith
total-front (suc n) f = let front = total-front n f in omega (arith, front)

pub total-suc : (n : ℕ) (f : ℕ → ℕ) → total n (λ i. suc (f i)) ≡ n + total n f
unfolding total
total-suc zero f = refl
total-suc (suc n) f = let before = total-suc n f in omega (arith, before)
