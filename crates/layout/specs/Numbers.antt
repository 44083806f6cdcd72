-- Document 01 (FORMAT, Numbers): "i32 is signed, f32 is IEEE 754 binary32". What the 32 bits of either stand for.
use Rattle.std.specs.Prelude.{ℕ, ◌^◌, Bool, leb, ℤ, Float}
use Rattle.std.specs.Float.Ieee.{of_bits}
use Rattle.std.specs.{Float.{binary32}, Int.{w32}}
use Rattle.std.proofs.Common.{to_z}

abbrev pub signed : ℕ → ℤ
signed bits = to_z w32 bits

-- The least bits of a negative i32, and whether an i32 is negative.
abbrev pub least_negative : ℕ
least_negative = 2 ^ 31

abbrev pub negative : ℕ → Bool
negative bits = leb least_negative bits

abbrev pub float : ℕ → Float
float bits = of_bits binary32 bits
