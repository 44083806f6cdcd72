-- A number of 32 bits told as an i32. Assumes nothing.
use Prim.Native.Nat.{ℕ, ◌<◌}
use mathlib.Core.Path.{◌≡◌, ◌∙◌}
use lib.IntN.{ℤ}
use Rattle.std.specs.Int.{w32}
use Rattle.std.specs.Int.Signed.{mag}
use Rattle.std.proofs.Common.{to_z, of_z, to_z-of_z}
use Rattle.layout.specs.Numbers.{signed}

pub cast_signed-is : (n : ℕ) {z : ℤ} → mag z < 2147483648 → z ≡ to_z w32 n → to_z w32 (of_z w32 z) ≡ signed n
cast_signed-is n small is = to_z-of_z {w = w32} (record { sfits = small }) ∙ is
