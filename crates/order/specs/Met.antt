-- Numbers met one after another, among slots whose numbers do not fall. `v` gives the number at a place of the slots.
use Rattle.std.specs.Prelude.{length, ℕ, ◌+◌, ◌<◌, ◌≤◌, Bool, true, false, List, ◌≡◌, get_or, Option, Some, None}
use Rattle.order.specs.{Field.{AllBelow}, Repeat.{number_at}}
use Rattle.order.specs.declared.field.Field.{Field}

-- Of n numbers, those before place k are below the given one, and those from there on are not.
pub record FirstPlace (v : ℕ → ℕ) (n number k : ℕ) : Type 0 where
  pub within : k ≤ n
  pub under : (i : ℕ) → i < k → v i < number
  pub rest : (i : ℕ) → k ≤ i → i < n → number ≤ v i

-- A number stands at places i and i + 1, and at none before them.
pub record Twice (v : ℕ → ℕ) (n number i : ℕ) : Type 0 where
  pub inside : i + 1 < n
  pub under : (j : ℕ) → j < i → v j < number
  pub here : v i ≡ number
  pub next : v (i + 1) ≡ number

abbrev pub FirstTwo : (ℕ → ℕ) → ℕ → ℕ → Option ℕ → Type 0
FirstTwo v n number (Some i) = Twice v n number i
FirstTwo v n number None = (i : ℕ) → Twice v n number i → ⊥

-- Whether the first two slots of a number are equal.
abbrev pub Marked : List ℕ → Field → List ℕ → ℕ → Bool → Type 0
Marked s f xs number true = (i : ℕ) × Twice (number_at s f xs) (length xs) number i × (get_or xs i 0 ≡ get_or xs (i + 1) 0)
Marked s f xs number false = (i : ℕ) → Twice (number_at s f xs) (length xs) number i → get_or xs i 0 ≡ get_or xs (i + 1) 0 → ⊥

-- The number is marked, if it stands more than once. The numbers at the places are as before, and so are the slots of other numbers.
pub record Meets (s : List ℕ) (f : Field) (number : ℕ) (before after : List ℕ) (r : Bool) : Type 0 where
  pub as_many : length after ≡ length before
  pub below : AllBelow f.count after
  pub numbers : (i : ℕ) → number_at s f after i ≡ number_at s f before i
  pub others : (i : ℕ) → (number_at s f before i ≡ number → ⊥) → get_or after i 0 ≡ get_or before i 0
  pub mark : (i : ℕ) → Twice (number_at s f before) (length before) number i → get_or after i 0 ≡ get_or after (i + 1) 0
  pub told : Marked s f before number r
