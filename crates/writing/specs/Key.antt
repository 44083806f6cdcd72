-- A key whose record is known by its frame and where its body stands: its bytes, and that it meets nothing.
use Rattle.std.specs.Prelude.{ℕ, List, ◌≡◌}
use Rattle.clip.specs.Keys as clip
use Rattle.blocks.specs.Track.{kind_of_track, number_of_track}
use Rattle.track_keys.specs.Fine.{KeyFine}
use Rattle.blocks.specs.declared.{key.Key.{Key}, track.TrackIndex.{TrackIndex}}
use Rattle.writing.specs.Tracks.{key_at}

abbrev pub key_of : Key → clip.Key ℕ
key_of k = record { frame = k.frame; body = k.at }

abbrev pub bytes_of : Key → List ℕ
bytes_of k = key_at k.section.now k.kind (key_of k)

-- A key of a track that was accepted.
pub record Accepted (k : Key) (track : TrackIndex) : Type 0 where
  pub kind : kind_of_track track ≡ k.kind
  pub fine : KeyFine k.section.now k.kind (number_of_track track) (key_of k)
