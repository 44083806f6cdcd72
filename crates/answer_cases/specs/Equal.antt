-- Tables of values that definitions give, each beside what it is.
use Rattle.std.specs.Prelude.{List, [], ◌∷◌, ◌≡◌}

abbrev pub Equal : {A : Type 0} → List (A × A) → Type 0
Equal [] = Unit {0}
Equal ((given, is) ∷ others) = (given ≡ is) × Equal others
