-- A part of a slice, and what is outside it.
use Rattle.std.specs.Prelude.{ℕ, ◌+◌, List, ◌≡◌, length, take, drop}

-- n places from one on.
abbrev pub part : ℕ → ℕ → List ℕ → List ℕ
part from n xs = take n (drop from xs)

-- Nothing but those places may have changed.
pub record Outside (from n : ℕ) (before after : List ℕ) : Type 0 where
  pub same : length after ≡ length before
  pub front : take from after ≡ take from before
  pub back : drop (from + n) after ≡ drop (from + n) before
