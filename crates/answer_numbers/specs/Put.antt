-- Numbers or bytes written into a lent slice from a place on, as far as it reaches: a place past the end is passed over (`set` leaves the
-- list as it is there), and the other places stay as they were.
use Rattle.std.specs.Prelude.{ℕ, suc, List, [], ◌∷◌, set}

unfoldable pub put : {A : Type 0} → ℕ → List A → List A → List A
put at [] slice = slice
put at (x ∷ xs) slice = put (suc at) xs (set slice at x)
