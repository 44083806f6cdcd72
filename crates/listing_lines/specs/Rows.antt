-- The lines of keys that are given by their rows, 16 numbers a key.
use Rattle.std.specs.Prelude.{ℕ, cond, List, [], ◌∷◌, ◌++◌, eqb, get_or}
use Rattle.clip.specs.Fields.{bone, morph}
use Rattle.listing_lines.specs.Lines.{name_of, key_line}

-- The kind by its number.
abbrev pub numbered : ℕ → List ℕ
numbered kind = cond (eqb kind 0) (name_of bone) (name_of morph)

-- A row begins with kind, track, place, frame and map.
unfoldable pub row_line : List ℕ → List ℕ
row_line row = key_line (numbered (get_or row 0 0)) (get_or row 1 0) (get_or row 3 0) (get_or row 4 0)

unfoldable pub row_lines : List (List ℕ) → List ℕ
row_lines [] = []
row_lines (row ∷ rows) = row_line row ++ row_lines rows
