-- Document 02, T-02 (FORMAT, Strips read back): every call judges the whole strip, so that a strip is refused by all calls alike, or for
-- its bytes by none; "19, for a track or key not there, is last". The proof is in proofs/Judged.antt.
use Rattle.std.specs.Prelude.{ℕ, List, ◌≡◌, ◌≤◌, ◌<◌, Result, Ok, Err}
use Rattle.std.specs.Result.{IfErr}
use Rattle.blocks.specs.declared.track.TrackIndex.{TrackIndex}
use Rattle.strip_reader.specs.Run.{CountsCall, KeyCountCall, KeyCall, KeysCall}
use Rattle.strip_reader.specs.declared.{refusal.ReaderRefusal.{ReaderRefusal}, counts.StripCounts.{StripCounts}, key.StripKey.{StripKey}}

-- The tracks of a strip that has so many.
abbrev pub IsTrack : StripCounts → TrackIndex → Type 0
IsTrack counts (TrackIndex.Bone bone) = bone.0 < counts.bones
IsTrack counts (TrackIndex.Morph morph) = morph.0 < counts.morphs

module _ (strip : List ℕ) where
  -- Whatever is asked of the strip, this refusal is answered, and no row is written.
  pub record Refused (why : ReaderRefusal) : Type 0 where
    pub counts : (answer : Result StripCounts ReaderRefusal) → CountsCall strip answer → answer ≡ Err why
    pub key_count : (track : TrackIndex) (answer : Result ℕ ReaderRefusal) → KeyCountCall strip track answer → answer ≡ Err why
    pub key : (track : TrackIndex) (place : ℕ) (answer : Result StripKey ReaderRefusal) → KeyCall strip track place answer → answer ≡ Err why
    pub keys :
        (first : ℕ) (before : List ℕ) (answer : Result ℕ ReaderRefusal) (after : List ℕ)
        → KeysCall strip first before answer after → (answer ≡ Err why) × (after ≡ before)

  -- An answer that is no refusal, or 19.
  abbrev pub NotForBytes : {A : Type 0} → Result A ReaderRefusal → Type 0
  NotForBytes answer = IfErr answer (λ why. why ≡ ReaderRefusal.Absent)

  -- Whatever is asked of the strip, it is not refused for its bytes.
  pub record NeverRefused : Type 0 where
    pub counts : (answer : Result StripCounts ReaderRefusal) → CountsCall strip answer → NotForBytes answer
    pub key_count : (track : TrackIndex) (answer : Result ℕ ReaderRefusal) → KeyCountCall strip track answer → NotForBytes answer
    pub key : (track : TrackIndex) (place : ℕ) (answer : Result StripKey ReaderRefusal) → KeyCall strip track place answer → NotForBytes answer
    pub keys :
        (first : ℕ) (before : List ℕ) (answer : Result ℕ ReaderRefusal) (after : List ℕ)
        → KeysCall strip first before answer after → NotForBytes answer

  -- 19, whatever is asked of this track.
  pub record NoTrack (track : TrackIndex) : Type 0 where
    pub key_count : (answer : Result ℕ ReaderRefusal) → KeyCountCall strip track answer → answer ≡ Err ReaderRefusal.Absent
    pub key : (place : ℕ) (answer : Result StripKey ReaderRefusal) → KeyCall strip track place answer → answer ≡ Err ReaderRefusal.Absent

pub record JudgedWhole : Type 0 where
  pub refused : (strip : List ℕ) (why : ReaderRefusal) → CountsCall strip (Err why) → Refused strip why
  pub accepted : (strip : List ℕ) (counts : StripCounts) → CountsCall strip (Ok counts) → NeverRefused strip
  pub no_track :
      (strip : List ℕ) (counts : StripCounts) → CountsCall strip (Ok counts)
      → (track : TrackIndex) → (IsTrack counts track → ⊥) → NoTrack strip track
  pub no_key :
      (strip : List ℕ) (track : TrackIndex) (number : ℕ) → KeyCountCall strip track (Ok number)
      → (place : ℕ) → number ≤ place
      → (answer : Result StripKey ReaderRefusal) → KeyCall strip track place answer → answer ≡ Err ReaderRefusal.Absent
