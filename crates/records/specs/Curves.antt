-- Document 01 (FORMAT, Records): "A bone's interpolation is four curves of four bytes each: x, y, z, rotation".
use Rattle.std.specs.Prelude.{ℕ, ◌+◌, List, [], ◌∷◌, get_or}

abbrev pub curve_at : List ℕ → ℕ → List ℕ
curve_at s at = get_or s at 0 ∷ get_or s (at + 1) 0 ∷ get_or s (at + 2) 0 ∷ get_or s (at + 3) 0 ∷ []

abbrev pub curves_at : List ℕ → ℕ → List (List ℕ)
curves_at s at = curve_at s at ∷ curve_at s (at + 4) ∷ curve_at s (at + 8) ∷ curve_at s (at + 12) ∷ []

-- What stands for a record that is not there.
abbrev pub no_curves : List (List ℕ)
no_curves = (0 ∷ 0 ∷ 0 ∷ 0 ∷ []) ∷ (0 ∷ 0 ∷ 0 ∷ 0 ∷ []) ∷ (0 ∷ 0 ∷ 0 ∷ 0 ∷ []) ∷ (0 ∷ 0 ∷ 0 ∷ 0 ∷ []) ∷ []
