-- The number that stands for a value. That of an f32 is its 32 bits in the section, which a summary has beside it.
use Rattle.std.specs.{Prelude.{ℕ, Bool, cond, List, [], ◌∷◌, ℤ, Option, Some, None}, Int.{w32}}
use Rattle.std.proofs.Common.{of_z}

-- An i32 as its 32-bit pattern.
abbrev pub pattern : ℤ → ℕ
pattern z = of_z w32 z

abbrev pub flag : Bool → ℕ
flag b = cond b 1 0

-- An absent index as 2 ^ 64 - 1.
abbrev pub index : Option ℤ → ℕ
index None = 18446744073709551615
index (Some i) = pattern i

-- The number of a reference in a list; none as 2 ^ 64 - 1.
abbrev pub reference_index : Option ℕ → List ℕ
reference_index None = 18446744073709551615 ∷ []
reference_index (Some k) = k ∷ []
