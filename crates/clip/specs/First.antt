-- Document 01, "Build order" (FORMAT, The build): "The first refusal met ends the whole walk." What is met first of several things, and
-- what is found among the numbers from 0 on.
use Rattle.std.specs.Prelude.{ℕ, zero, suc, ◌+◌, Bool, true, false, cond, ◌||◌, List, [], ◌∷◌, eqb}
use Rattle.std.proofs.Math.Option.{Option, none, some}

module _ {A : Type 0} where
  abbrev pub given : Bool → A → Option A
  given true a = some a
  given false a = none

  infixr 62 ◌or◌
  abbrev pub ◌or◌ : Option A → Option A → Option A
  none or y = y
  some a or y = some a

  -- Of f 0, f 1, .., f (n - 1).
  unfoldable pub first_met : ℕ → (ℕ → Option A) → Option A
  first_met zero f = none
  first_met (suc n) f = first_met n f or f n

-- Whether one of the numbers below n passes, and how many do.
unfoldable pub any : ℕ → (ℕ → Bool) → Bool
any zero f = false
any (suc n) f = any n f || f n

unfoldable pub number : ℕ → (ℕ → Bool) → ℕ
number zero f = 0
number (suc n) f = number n f + cond (f n) 1 0

unfoldable pub member : ℕ → List ℕ → Bool
member n [] = false
member n (m ∷ ms) = eqb n m || member n ms

-- f 0 + f 1 + .. + f (n - 1)
unfoldable pub total : ℕ → (ℕ → ℕ) → ℕ
total zero f = 0
total (suc n) f = total n f + f n
