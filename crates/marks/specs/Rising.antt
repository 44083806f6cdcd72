-- Tracks whose chains end, whose frames rise and whose keys meet nothing.
use Rattle.std.specs.Prelude.{ℕ, ◌<◌, List, ◌≡◌, Option, Some, None}
use Rattle.std.proofs.Math.Option.{none}
use Rattle.clip.specs.Build.{record_key, links_followed}
use Rattle.strip.specs.Work.{each, track_mark}
use Rattle.blocks.specs.{Kind.{kind_of}, Block.{links}}
use Rattle.track_keys.specs.{Fine.{KeyFine}, Tracks.{tracks_meet}}
use Rattle.blocks.specs.declared.block.Block.{Block}

-- The record at p behind a key of that frame: the previous link is the one expected, its frame is later, and its key meets nothing.
pub record Behind (s : List ℕ) (b : Block) (track p expected frame : ℕ) : Type 0 where
  pub previous : ((links s b).at p).previous ≡ expected
  pub later : frame < ((links s b).at p).frame
  pub fine : KeyFine s b.kind track (record_key ((links s b).at p))

-- Such a record's frame.
abbrev pub StandsBehind : List ℕ → Block → ℕ → ℕ → ℕ → ℕ → Option ℕ → Type 0
StandsBehind s b track p expected frame (Some later) = Behind s b track p expected frame × (later ≡ ((links s b).at p).frame)
StandsBehind s b track p expected frame None = Unit {0}

-- No track meets anything, and all records are marked.
pub record AllMarked (s : List ℕ) (b : Block) (after : List ℕ) (n : ℕ) : Type 0 where
  pub passes : tracks_meet s b b.initials.count ≡ none
  pub followed : n ≡ links_followed (kind_of b.kind) (links s b)
  pub marks : after ≡ each b.records.count (track_mark (kind_of b.kind) (links s b))

abbrev pub TracksMarked : List ℕ → Block → List ℕ → Option ℕ → Type 0
TracksMarked s b after (Some n) = AllMarked s b after n
TracksMarked s b after None = Unit {0}
