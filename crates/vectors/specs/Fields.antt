-- What is read from the bytes that are left of a part of a file.
use Rattle.std.specs.Prelude.{ℕ, List, ◌-◌, ◌++◌, length, take, replicate}

-- The first n bytes; those past the end are 0.
unfoldable pub padded : ℕ → List ℕ → List ℕ
padded n left = take n left ++ replicate (n - length (take n left)) 0
