-- Numbers that stand twice.
use Rattle.std.specs.Prelude.{ℕ, zero, suc, ◌-◌, ◌<◌, ◌≤◌, Bool, true, false, List, [], ◌∷◌, ◌≡◌, length, get_or}
use Rattle.order.specs.Field.{number_of}
use Rattle.order.specs.declared.field.Field.{Field}

-- Of n numbers f 0, .., f (n - 1), the first one that stands before too; n if there is none.
pub record FirstRepeat (f : ℕ → ℕ) (n m : ℕ) : Type 0 where
  pub most : m ≤ n
  pub apart : (i j : ℕ) → i < j → j < m → f i ≡ f j → ⊥
  pub again : m < n → (i : ℕ) × (i < m) × (f i ≡ f m)

-- Whether two of n numbers are equal.
abbrev pub Repeats : (ℕ → ℕ) → ℕ → Bool → Type 0
Repeats f n true = (i : ℕ) × (j : ℕ) × (i < j) × (j < n) × (f i ≡ f j)
Repeats f n false = (i j : ℕ) → i < j → j < n → f i ≡ f j → ⊥

abbrev pub number_at : List ℕ → Field → List ℕ → ℕ → ℕ
number_at s f xs i = number_of s f (get_or xs i 0)

-- A number, and behind it those of the records at the positions of a list.
abbrev pub with_first : ℕ → List ℕ → Field → List ℕ → ℕ → ℕ
with_first number s f xs zero = number
with_first number s f xs (suc i) = number_at s f xs i

-- first, first + 1, .., n numbers.
unfoldable pub count_from : ℕ → ℕ → List ℕ
count_from first zero = []
count_from first (suc n) = first ∷ count_from (suc first) n

-- 0, 1, .., n - 1.
abbrev pub up_to : ℕ → List ℕ
up_to n = count_from 0 n

-- The slot at place i stands right behind one with an equal number.
pub record Behind (s : List ℕ) (f : Field) (xs : List ℕ) (i : ℕ) : Type 0 where
  pub later : 0 < i
  pub inside : i < length xs
  pub equal : number_at s f xs (i - 1) ≡ number_at s f xs i

-- The least slot right behind one with an equal number; n if none of them is below n.
pub record LeastBehind (s : List ℕ) (f : Field) (xs : List ℕ) (n m : ℕ) : Type 0 where
  pub most : m ≤ n
  pub least : (i : ℕ) → Behind s f xs i → m ≤ get_or xs i 0
  pub some : m < n → (i : ℕ) × Behind s f xs i × (get_or xs i 0 ≡ m)
