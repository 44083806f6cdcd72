-- Document 02, T-02 (FORMAT, Strips read back): all keys of a strip in one reading, against the calls for one key: whole keys as far as
-- they fit, from a given number on, in the strip's order. The proof is in proofs/Rows.antt.
use Rattle.std.specs.Prelude.{ℕ, ◌+◌, ◌*◌, ◌-◌, ◌/◌, ◌<◌, List, ◌∷◌, ◌≡◌, length, take, drop, min, Result, Ok, All}
use Rattle.std.specs.List.{concat}
use Rattle.clip.specs.First.{total}
use Rattle.strip.specs.Plain.{floats}
use Rattle.blocks.specs.{Kind.{kind_of}, Track.{kind_of_track, number_of_track}}
use Rattle.blocks.specs.declared.track.TrackIndex.{TrackIndex}
use Rattle.strip_reader.specs.{Answers.{kind_number, key_numbers, row_numbers}, Run.{KeysCall}}
use Rattle.strip_reader.specs.declared.{refusal.ReaderRefusal.{ReaderRefusal}, key.StripKey.{StripKey}}
use Rattle.strip_laws.specs.{Judged.{IsTrack}, Told.{Told, bone_track, morph_track}, Written.{written_key}}

-- Row i of a slice.
abbrev pub row_at : List ℕ → ℕ → List ℕ
row_at rows i = take row_numbers (drop (row_numbers * i) rows)

module _ {strip : List ℕ} (told : Told strip) where
  -- How many keys of each kind stand in the tracks below one.
  abbrev pub bone_keys : ℕ → ℕ
  bone_keys track = total track (λ t. told.number (bone_track t))

  abbrev pub morph_keys : ℕ → ℕ
  morph_keys track = total track (λ t. told.number (morph_track t))

  abbrev pub all_keys : ℕ
  all_keys = bone_keys told.counts.bones + morph_keys told.counts.morphs

  -- How many keys stand before a track: "bone tracks, then morph tracks".
  abbrev pub keys_before : TrackIndex → ℕ
  keys_before (TrackIndex.Bone bone) = bone_keys bone.0
  keys_before (TrackIndex.Morph morph) = bone_keys told.counts.bones + morph_keys morph.0

  -- A key's row: kind, track and place, and what the call for this key answers.
  abbrev pub row : TrackIndex → ℕ → List ℕ
  row track place = kind_number (kind_of (kind_of_track track)) ∷ number_of_track track ∷ place ∷ key_numbers (told.key track place)

  -- The key of this number, from 0, in the strip's order.
  pub record Numbered (n : ℕ) : Type 0 where
    pub track : TrackIndex
    pub is_track : IsTrack told.counts track
    pub place : ℕ
    pub is_place : place < told.number track
    pub stands : keys_before track + place ≡ n

  -- What is written from a given number on, where the slice held this before.
  module _ (first : ℕ) (before : List ℕ) where
    abbrev pub rows_written : ℕ
    rows_written = min (all_keys - first) (length before / row_numbers)

    pub record RowsTold (answer : Result ℕ ReaderRefusal) (after : List ℕ) : Type 0 where
      pub number : answer ≡ Ok all_keys
      -- Each row that is written has a number, and is the row of its key.
      pub numbered : (i : ℕ) → i < rows_written → Numbered (first + i)
      pub rows : (i : ℕ) → i < rows_written → (k : Numbered (first + i)) → row_at after i ≡ row k.track k.place
      -- Later places are left.
      pub later : drop (row_numbers * rows_written) after ≡ drop (row_numbers * rows_written) before
      pub length_kept : length after ≡ length before

abbrev pub KeysTold : Type 0
KeysTold =
    (strip : List ℕ) (told : Told strip) (first : ℕ) (before : List ℕ) (answer : Result ℕ ReaderRefusal) (after : List ℕ)
    → KeysCall strip first before answer after → RowsTold told first before answer after

-- A row tells its key whole: behind frame and map its numbers, four bytes each, are the key's fields as they are written. The proof is in
-- proofs/ToldFields.antt.
abbrev pub TellsFields : StripKey → Type 0
TellsFields (StripKey.Bone k) = floats (drop 2 (key_numbers (StripKey.Bone k))) ≡ concat (written_key (StripKey.Bone k)).body
TellsFields (StripKey.Morph k) = floats (take 1 (drop 2 (key_numbers (StripKey.Morph k)))) ≡ concat (written_key (StripKey.Morph k)).body

abbrev pub RowsWhole : Type 0
RowsWhole =
    (strip : List ℕ) → All (λ b. b < 256) strip → (told : Told strip)
    → (track : TrackIndex) → IsTrack told.counts track → (place : ℕ) → place < told.number track → TellsFields (told.key track place)
