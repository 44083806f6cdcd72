-- A number that was read: its value, and the offset behind it. Assumes nothing.
use Prim.Native.Nat.{ℕ, ◌+◌}
use mathlib.Core.List.{List}
use mathlib.Core.Path.{◌≡◌}
use Rattle.layout.specs.Walk.{fine, u32_at, u32}
use Rattle.layout.proofs.Inversion.{Was, item-was}

pub number-was : (s : List ℕ) (at n next : ℕ) → u32 s at ≡ fine n next → Was (u32_at s at) (at + 4) n next
number-was s at n next e = item-was 4 u32_at s at n next e
