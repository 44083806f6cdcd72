-- Of private functions: keys passed over for their frames alone.
use Rattle.std.specs.Prelude.{ℕ, zero, suc, ◌+◌, ◌/◌, ◌%◌, ◌^◌, cond, List, [], ◌∷◌, length, drop, eqb, leb, Option, Some, None}
use Rattle.layout.specs.{Refusals.{unknown_map}, Walk.{Answer, answered, declined}}
use Rattle.strip.specs.Plain.{Group}
use Rattle.strip_reader.specs.{Front.{Front, ◌>>=◌, ◌>>◌, give, refuse_if, number}, Key.{Form, fields}}

-- A key's frame, without the test of its fields.
unfoldable pub skipped : Form → Front ℕ
skipped form = do
  frame ← number 4
  map ← number 1
  refuse_if (leb (2 ^ length form.groups) map) unknown_map
  body ← fields form.groups map
  give frame

-- What is read and the bytes behind it, whatever the refusal.
abbrev pub frame_of : Answer (ℕ × List ℕ) → Option (ℕ × List ℕ)
frame_of (answered read) = Some read
frame_of (declined why) = None

-- A position stands for the bytes from it on.
abbrev pub bytes_behind : List ℕ → Option (ℕ × ℕ) → Option (ℕ × List ℕ)
bytes_behind strip None = None
bytes_behind strip (Some (frame, next)) = Some (frame, drop next strip)

-- How many bytes the fields have that a map byte names.
abbrev pub width_of : List Group → ℕ → ℕ
width_of [] map = 0
width_of (g ∷ gs) map = cond (eqb (map % 2) 1) g.width 0 + width_of gs (map / 2)

abbrev pub frame_before : Answer (ℕ × List ℕ) → (List ℕ → List ℕ) → List ℕ
frame_before (answered (frame, left)) others = frame ∷ others left
frame_before (declined why) others = []

module _ (form : Form) where
  -- The frames of the first n keys, as far as they can be passed over.
  unfoldable pub frames : ℕ → List ℕ → List ℕ
  frames zero left = []
  frames (suc n) left = frame_before (skipped form left) (λ behind. frames n behind)
