-- Document 02, T-02 (FORMAT, Strips read back): all that the calls answer of an accepted strip: "both counts, a track's key count, and a
-- key by kind, track and place from 0". That there is such an answer for every accepted strip is proved in proofs/Told.antt.
use Rattle.std.specs.Prelude.{ℕ, ◌<◌, List, Ok}
use Rattle.blocks.specs.declared.track.TrackIndex.{TrackIndex}
use Rattle.strip_reader.specs.Run.{CountsCall, KeyCountCall, KeyCall}
use Rattle.strip_reader.specs.declared.{counts.StripCounts.{StripCounts}, key.StripKey.{StripKey}}
use Rattle.strip_laws.specs.Judged.{IsTrack}

pub record Told (strip : List ℕ) : Type 0 where
  pub counts : StripCounts
  pub are_counts : CountsCall strip (Ok counts)
  pub number : TrackIndex → ℕ
  pub is_number : (track : TrackIndex) → IsTrack counts track → KeyCountCall strip track (Ok (number track))
  pub key : TrackIndex → ℕ → StripKey
  pub is_key :
      (track : TrackIndex) → IsTrack counts track
      → (place : ℕ) → place < number track → KeyCall strip track place (Ok (key track place))

-- The tracks of each kind, by their numbers.
abbrev pub bone_track : ℕ → TrackIndex
bone_track t = TrackIndex.Bone (record { 0 = t })

abbrev pub morph_track : ℕ → TrackIndex
morph_track t = TrackIndex.Morph (record { 0 = t })

abbrev pub AcceptedTold : Type 0
AcceptedTold = (strip : List ℕ) (counts : StripCounts) → CountsCall strip (Ok counts) → Told strip
