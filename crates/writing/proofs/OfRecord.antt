-- A key that was read of a record: its bytes are the record's, and it was accepted with its track. Assumes nothing.
use Prim.Native.Nat.{ℕ}
use mathlib.Core.List.{List}
use mathlib.Core.Path.{◌≡◌, sym, ◌∙◌}
use Rattle.clip.specs.Keys as clip
use Rattle.blocks.specs.Track.{kind_of_track, number_of_track}
use Rattle.blocks.specs.declared.key.Key.{Key}
use Rattle.blocks.specs.declared.kind.Kind.{Kind}
use Rattle.blocks.specs.declared.track.TrackIndex.{TrackIndex}
use Rattle.track_keys.specs.Fine.{KeyFine}
use Rattle.writing.specs.Key.{Accepted}
use Rattle.writing.specs.Tracks.{key_at}

module _ {s : List ℕ} {kind : Kind} (key : clip.Key ℕ) where
  pub bytes-read : {section : List ℕ} {of : Kind} {frame body : ℕ} → section ≡ s → of ≡ kind → frame ≡ key.frame → body ≡ key.body → key_at section of (record { frame = frame; body = body }) ≡ key_at s kind key
  bytes-read in-section of-kind at-frame at-body = rw (in-section, of-kind, at-frame, at-body)

  pub accepted : {k : Key} → k.section.now ≡ s → k.kind ≡ kind → k.frame ≡ key.frame → k.at ≡ key.body → {track : TrackIndex} → kind_of_track track ≡ kind → KeyFine s kind (number_of_track track) key → Accepted k track
  accepted in-section of-kind at-frame at-body of-track fine = record { kind = of-track ∙ sym of-kind; fine = rw (in-section, of-kind, at-frame, at-body) fine }
