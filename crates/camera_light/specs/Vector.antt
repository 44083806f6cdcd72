-- What camera and light records have in common (FORMAT, Records): three floats, and where an item of the payload stands.
use Rattle.std.specs.Prelude.{ℕ, ◌-◌, List, Float, map, drop}
use Rattle.layout.specs.{Numbers.{float}, Records.{size}}

abbrev pub vector_width : ℕ
vector_width = 12

abbrev pub vector_of : List ℕ → List Float
vector_of bits = map float bits

-- Where item k of those behind the base stands in a record that ends at `end`.
abbrev pub item_at : List ℕ → ℕ → ℕ → ℕ
item_at items k end = end - size (drop k items)
