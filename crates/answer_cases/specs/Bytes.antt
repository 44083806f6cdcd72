-- Bytes that sections by hand are made of (FORMAT, Numbers).
use Rattle.std.specs.Prelude.{ℕ, zero, suc, ◌+◌, List, [], ◌∷◌, ◌++◌, length, replicate}

abbrev pub zeros : ℕ → List ℕ
zeros n = replicate n 0

-- Numbers below 256, each as an i32 or as the bits of an f32; -1 as an i32.
abbrev pub small : ℕ → List ℕ
small n = n ∷ zeros 3

abbrev pub smalls : List ℕ → List ℕ
smalls [] = []
smalls (n ∷ ns) = small n ++ smalls ns

abbrev pub minus_one : List ℕ
minus_one = replicate 4 255

-- n, n + 1 and so on, so many of them.
abbrev pub from : ℕ → ℕ → List ℕ
from n zero = []
from n (suc k) = n ∷ from (n + 1) k

-- A name of fewer than 256 bytes.
abbrev pub text : List ℕ → List ℕ
text bytes = length bytes ∷ bytes
