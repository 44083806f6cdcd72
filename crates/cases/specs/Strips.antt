-- Document 01, "The strip" (FORMAT, The strip): strips, byte by byte.
use Rattle.std.specs.Prelude.{ℕ, List, [], ◌∷◌}

-- The strip of one bone and no morph, or of one morph and no bone, whose one key is of frame 0, by the key's map byte and fields.
abbrev pub bone_strip : List ℕ → List ℕ
bone_strip key = 1 ∷ 0 ∷ 0 ∷ 0 ∷ 1 ∷ 0 ∷ 0 ∷ 0 ∷ 0 ∷ 0 ∷ key

abbrev pub morph_strip : List ℕ → List ℕ
morph_strip key = 0 ∷ 0 ∷ 1 ∷ 0 ∷ 1 ∷ 0 ∷ 0 ∷ 0 ∷ 0 ∷ 0 ∷ key

-- The strip of two bones with one plain key each, of frame 0.
abbrev pub two_tracks : List ℕ
two_tracks = 2 ∷ 0 ∷ 0 ∷ 0 ∷ 1 ∷ 0 ∷ 0 ∷ 0 ∷ 0 ∷ 0 ∷ 0 ∷ 1 ∷ 0 ∷ 0 ∷ 0 ∷ 0 ∷ 0 ∷ 0 ∷ []
