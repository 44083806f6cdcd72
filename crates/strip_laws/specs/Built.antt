-- Document 02, T-02 (FORMAT, Strips read back): "A strip made by the builder is never refused for its bytes, and what this reads of it has
-- equal frames, curves and float values". The proof is in proofs/Built.antt.
use Rattle.std.specs.Prelude.{ℕ, ◌<◌, List, ◌≡◌, length, Some, Result, Ok}
use Rattle.std.specs.List.{slice_get}
use Rattle.section.specs.declared.model.Model.{Model}
use Rattle.clip.specs.{Fields.{bone, morph}, Keys.{Key}, Build.{keys}, Section.{bones, morphs}}
use Rattle.blocks.specs.declared.track.{TrackIndex.{TrackIndex}, BoneIndex.{BoneIndex}, MorphIndex.{MorphIndex}}
use Rattle.strip_reader.specs.Run.{CountsCall, KeyCountCall, KeyCall}
use Rattle.strip_reader.specs.declared.{refusal.ReaderRefusal.{ReaderRefusal}, counts.StripCounts.{StripCounts}, key.StripKey.{StripKey}}
use Rattle.strip_call.specs.Run.{Run, ReadWithin, Accepted, strip_out}
use Rattle.strip_laws.specs.{Same.{SameBoneKey, SameMorphKey}, Judged.{NeverRefused}}

module _ {B : Type 0} (Same : StripKey → Key B → Type 0) (built_keys : List (Key B)) where
  -- The key in a place of the track as the section has it, and as it is answered.
  pub record KeyRead (place : ℕ) (answer : Result StripKey ReaderRefusal) : Type 0 where
    pub built : Key B
    pub is_built : slice_get built_keys place ≡ Some built
    pub read : StripKey
    pub answers : answer ≡ Ok read
    pub same : Same read built

  -- As many keys, and each the same.
  pub record TrackRead (strip : List ℕ) (track : TrackIndex) : Type 0 where
    pub number : (answer : Result ℕ ReaderRefusal) → KeyCountCall strip track answer → answer ≡ Ok (length built_keys)
    pub keys :
        (place : ℕ) → place < length built_keys
        → (answer : Result StripKey ReaderRefusal) → KeyCall strip track place answer → KeyRead place answer

-- What the calls answer of the strip of a section that is read as this model: as many tracks of each kind, and each as it was built.
pub record ReadBack (s : List ℕ) (m : Model) (strip : List ℕ) : Type 0 where
  pub never_refused : NeverRefused strip
  pub counts :
      (answer : Result StripCounts ReaderRefusal)
      → CountsCall strip answer → answer ≡ Ok (record { bones = (bones s m).tracks; morphs = (morphs s m).tracks })
  pub bones :
      (track : BoneIndex) → track.0 < (bones s m).tracks
      → TrackRead SameBoneKey (keys bone (bones s m) track.0) strip (TrackIndex.Bone track)
  pub morphs :
      (track : MorphIndex) → track.0 < (morphs s m).tracks
      → TrackRead SameMorphKey (keys morph (morphs s m) track.0) strip (TrackIndex.Morph track)

-- Of any run of the strip call that is read within the limits and accepted.
abbrev pub BuiltRead : Type 0
BuiltRead = (x : Run) (within : ReadWithin x) (accepted : Accepted x) → ReadBack x.lent.section within.model (strip_out x accepted)
