-- The calls of document 02, T-02: "Nothing is left open" (document 01): what a call answers of a strip is fixed by its contract, and so is
-- what the slice for rows holds. The proof is in proofs/Fixed.antt.
use Rattle.std.specs.Prelude.{ℕ, List, ◌≡◌, Result}
use Rattle.blocks.specs.declared.track.TrackIndex.{TrackIndex}
use Rattle.strip_reader.specs.Run.{CountsCall, KeyCountCall, KeyCall, KeysCall}
use Rattle.strip_reader.specs.declared.{refusal.ReaderRefusal.{ReaderRefusal}, counts.StripCounts.{StripCounts}, key.StripKey.{StripKey}}

-- Two runs that are lent the same answer the same.
pub record Fixed : Type 0 where
  pub counts : (strip : List ℕ) (x y : Result StripCounts ReaderRefusal) → CountsCall strip x → CountsCall strip y → x ≡ y
  pub key_count :
      (strip : List ℕ) (track : TrackIndex) (x y : Result ℕ ReaderRefusal)
      → KeyCountCall strip track x → KeyCountCall strip track y → x ≡ y
  pub key :
      (strip : List ℕ) (track : TrackIndex) (place : ℕ) (x y : Result StripKey ReaderRefusal)
      → KeyCall strip track place x → KeyCall strip track place y → x ≡ y
  pub keys :
      (strip : List ℕ) (first : ℕ) (before : List ℕ) (x y : Result ℕ ReaderRefusal) (after_x after_y : List ℕ)
      → KeysCall strip first before x after_x → KeysCall strip first before y after_y → (x ≡ y) × (after_x ≡ after_y)
