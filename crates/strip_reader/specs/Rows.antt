-- Of private functions: a strip's keys read for their rows, and rows put one after the other into a slice.
use Rattle.std.specs.Prelude.{ℕ, zero, suc, ◌+◌, ◌-◌, ◌*◌, ◌/◌, ◌||◌, cond, List, [], ◌∷◌, ◌++◌, length, take, drop, ltb, leb, ◌≡◌, Result, Ok, Err}
use Rattle.layout.specs.Walk.{Answer, answered, declined}
use Rattle.clip.specs.Fields.{Kind}
use Rattle.strip.specs.Strip.{count_width}
use Rattle.strip_reader.specs.{Front.{Front, ◌>>=◌, give, number}, Key.{form_of, key}, Answers.{reader_refusal, strip_key, key_numbers, kind_number, row_numbers}}
use Rattle.strip_reader.specs.declared.{refusal.ReaderRefusal.{ReaderRefusal}, key.StripKey.{StripKey}, all_keys.Reached.{Reached}}

abbrev pub row_of : Kind → ℕ → ℕ → StripKey → List ℕ
row_of kind track place k = kind_number kind ∷ track ∷ place ∷ key_numbers k

module _ (kind : Kind) where
  -- The rows of so many keys from a place on.
  unfoldable pub keys_rows : ℕ → ℕ → ℕ → Front (List (List ℕ))
  keys_rows track place zero = give []
  keys_rows track place (suc n) = do
    first ← key (form_of kind)
    others ← keys_rows track (place + 1) n
    give (row_of kind track place (strip_key kind first) ∷ others)

  -- The rows of a track behind its count.
  unfoldable pub track_read : ℕ → Front (List (List ℕ))
  track_read track = do
    count ← number count_width
    keys_rows track 0 count

  unfoldable pub tracks_rows : ℕ → ℕ → Front (List (List ℕ))
  tracks_rows track zero = give []
  tracks_rows track (suc n) = do
    first ← track_read track
    others ← tracks_rows (track + 1) n
    give (first ++ others)

-- A row at its place, counted from the number of the first one on, where there is room.
unfoldable pub row_put : ℕ → ℕ → List ℕ → List ℕ → List ℕ
row_put first number row slice =
    cond
    (ltb number first || leb (length slice / row_numbers) (number - first))
    slice
    (take ((number - first) * row_numbers) slice ++ row ++ drop ((number - first) * row_numbers + row_numbers) slice)

unfoldable pub rows_put : ℕ → ℕ → List (List ℕ) → List ℕ → List ℕ
rows_put first number [] slice = slice
rows_put first number (row ∷ rows) slice = rows_put first (number + 1) rows (row_put first number row slice)

-- Rows that were read and put.
pub record RowsPut (read : Answer (List (List ℕ) × List ℕ)) (strip : List ℕ) (from : Reached) (first : ℕ) (before : List ℕ) (to : Reached) (after : List ℕ) : Type 0 where
  pub rows : List (List ℕ)
  pub is : read ≡ answered (rows, drop to.at strip)
  pub counts : to.number ≡ from.number + length rows
  pub leaves : after ≡ rows_put first from.number rows before

abbrev pub PutsRows : Answer (List (List ℕ) × List ℕ) → List ℕ → Reached → ℕ → List ℕ → Result Reached ReaderRefusal → List ℕ → Type 0
PutsRows read strip from first before (Ok to) after = RowsPut read strip from first before to after
PutsRows read strip from first before (Err why) after = read ≡ declined (reader_refusal why)
