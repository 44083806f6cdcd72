-- A chain's positions taken one by one, each with its number: behind n items comes number n, with the position that stands there in the
-- chain (std's `YieldsList` of `enumerate`). Assumes nothing.
use Prim.Native.Nat.{ℕ, ◌+◌, ◌<◌}
use native.Mathlib.Omega.{arith}
use mathlib.Core.List.{List}
use mathlib.Core.Path.{◌≡◌, ap, ◌∙◌}
use lib.ListN.{length, get_or}
use Rattle.std.proofs.Common.{Option, Some, None}
use Rattle.std.specs.declared.iter.Enumerate.{Enumerate}
use Rattle.std.specs.Iterator.{Yields, YieldsFirst}
use Rattle.std.specs.Iterator.Adapters.{enumerate_source, enumerate_count, enumerate_steps}
use Rattle.std.specs.List.{enumerate_from}
use Rattle.std.proofs.lemmas.Iterator.{YieldsList}
use Rattle.std.proofs.lemmas.Iterator.Consumers.{YieldsList-from_first, YieldsList-from_enumerate, YieldsList-at, YieldsList-turn, YieldsList-end}
use Rattle.std.proofs.lemmas.Grind.{get_or_default_zero}
use Rattle.std.proofs.lemmas.List.FromFn.{length-enumerate_from, get_or-enumerate_from}
use Rattle.chains.specs.Positions.{positions_left}
use Rattle.chains.specs.declared.positions.Positions.{Positions}

-- The item of a turn: its number, and the position that stands there.
pub record Turn (xs : List ℕ) (n i p : ℕ) : Type 0 where
  pub inside : n < length xs
  pub number : i ≡ n
  pub is : p ≡ get_or xs n 0

module _ {xs : List ℕ} {s : Positions} (left : positions_left s ≡ xs) {a b : Enumerate Positions} (source : enumerate_source a ≡ s) (count : enumerate_count a ≡ 0) (same : b ≡ a) where
  steps : YieldsList {B = ℕ × ℕ} (enumerate_steps (YieldsFirst positions_left)) (λ p. (p.0, p.1)) b (enumerate_from 0 xs)
  steps = YieldsList-at same (YieldsList-from_enumerate (YieldsList-at source (YieldsList-from_first (λ x. x) positions_left xs left)) count)

  module _ (ys : List (ℕ × ℕ)) (t : Enumerate Positions) (y : Yields (enumerate_steps (YieldsFirst positions_left)) b ys t) (r : Option (ℕ × ℕ)) (u : Enumerate Positions) (step : enumerate_steps (YieldsFirst positions_left) t r u) where
    pub turn : {i p : ℕ} → r ≡ Some (i, p) → Turn xs (length ys) i p
    turn {i} {p} some =
        let at = YieldsList-turn steps ys t y r u (i, p) some step in
        let inside : length ys < length xs = omega (arith, at.0, length-enumerate_from 0 xs) in
        let is : ◌≡◌ {A = ℕ × ℕ} (i, p) (0 + length ys, get_or xs (length ys) p) = at.1 ∙ get_or-enumerate_from 0 xs (length ys) (i, p) inside in
        record { inside = inside; number = (let first = ap (λ (q : ℕ × ℕ). q.0) is in omega (arith, first)); is = ap (λ (q : ℕ × ℕ). q.1) is ∙ get_or_default_zero xs (length ys) p inside }

    pub turns-end : r ≡ None → length ys ≡ length xs
    turns-end none = let at = YieldsList-end steps ys t y r u none step in at.1 ∙ length-enumerate_from 0 xs
