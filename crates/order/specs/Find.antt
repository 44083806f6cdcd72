-- What `find` answers.
use Rattle.std.specs.Prelude.{ℕ, ◌<◌, ◌≤◌, List, ◌≡◌, length, get_or, Option, Some, None}
use Rattle.order.specs.Field.{number_of}
use Rattle.order.specs.declared.field.Field.{Field}

-- Numbers do not fall along the slots.
abbrev pub NumbersRise : List ℕ → Field → List ℕ → Type 0
NumbersRise s f xs = (i j : ℕ) → i < j → j < length xs → number_of s f (get_or xs i 0) ≤ number_of s f (get_or xs j 0)

-- A slot that is answered has the number. Nothing is said where none is.
abbrev pub Stands : List ℕ → Field → List ℕ → ℕ → Option ℕ → Type 0
Stands s f xs number (Some i) = (i < length xs) × (number_of s f (get_or xs i 0) ≡ number)
Stands s f xs number None = Unit {0}

abbrev pub Finds : List ℕ → Field → List ℕ → ℕ → Option ℕ → Type 0
Finds s f xs number (Some i) = (i < length xs) × (number_of s f (get_or xs i 0) ≡ number)
Finds s f xs number None = (i : ℕ) → i < length xs → number_of s f (get_or xs i 0) ≡ number → ⊥
