-- A bone's four curves, one behind the other, are its 16 bytes of interpolation. Assumes nothing.
use Prim.Native.Nat.{ℕ}
use native.Mathlib.Nat.{add_assoc, add-zero}
use mathlib.Core.List.{List}
use mathlib.Core.Path.{◌≡◌}
use Rattle.std.specs.List.{concat}
use Rattle.layout.specs.Walk.{bytes_at}
use Rattle.records.specs.Curves.{curves_at}

pub curves_bytes : (s : List ℕ) (at : ℕ) → concat (curves_at s at) ≡ bytes_at s at 16
unfolding bytes_at
curves_bytes s at = simp (add-zero, add_assoc)
