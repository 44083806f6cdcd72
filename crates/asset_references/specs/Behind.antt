-- A text that begins with another, without regard to ASCII case, and what of it stands behind that.
use Rattle.std.specs.Prelude.{ℕ, cond, List, [], ◌∷◌, Option, Some, None}
use Rattle.std.specs.Char.{eq_ignore_ascii_case}

unfoldable pub behind : List ℕ → List ℕ → Option (List ℕ)
behind text [] = Some text
behind [] (b ∷ bytes) = None
behind (a ∷ text) (b ∷ bytes) = cond (eq_ignore_ascii_case b a) (behind text bytes) None
