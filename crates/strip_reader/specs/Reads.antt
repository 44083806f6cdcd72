-- Of private functions: what they answer, a value and a position, which stands for the bytes from it on.
use Rattle.std.specs.Prelude.{ℕ, ◌^◌, Bool, cond, List, length, drop, leb, Result, Ok, Err}
use Rattle.layout.specs.{Refusals.{unknown_map}, Walk.{Answer, answered, declined}}
use Rattle.strip_reader.specs.{Front.{Front, ◌>>=◌, ◌>>◌, give, bytes, number, refuse_if}, Key.{Form, fields}}
use Rattle.strip_reader.specs.Answers.{reader_refusal}
use Rattle.strip_reader.specs.declared.refusal.ReaderRefusal.{ReaderRefusal}

-- A value by what it stands for.
abbrev pub read_as : {A B : Type 0} → (A → B) → List ℕ → Result (A × ℕ) ReaderRefusal → Answer (B × List ℕ)
read_as value strip (Ok (a, next)) = answered (value a, drop next strip)
read_as value strip (Err why) = declined (reader_refusal why)

abbrev pub field_read : List ℕ → Result (List ℕ × ℕ) ReaderRefusal → Answer (List ℕ × List ℕ)
field_read strip result = read_as (λ field. field) strip result

-- A frame and a map.
unfoldable pub head : Front (ℕ × ℕ)
head = do
  frame ← number 4
  map ← number 1
  give (frame, map)

abbrev pub head_read : List ℕ → Result (ℕ × ℕ × ℕ) ReaderRefusal → Answer ((ℕ × ℕ) × List ℕ)
head_read strip (Ok (frame, map, next)) = answered ((frame, map), drop next strip)
head_read strip (Err why) = declined (reader_refusal why)

-- The bytes of a group, where its bit stands, or its plain value.
abbrev pub field_of : ℕ → Bool → List ℕ → Front (List ℕ)
field_of width stands plain = cond stands (bytes width) (give plain)

-- 24, and the fields of a known map.
unfoldable pub known_fields : Form → ℕ → Front (List (List ℕ))
known_fields form map = do
  refuse_if (leb (2 ^ length form.groups) map) unknown_map
  fields form.groups map
