-- The records of one kind where they stand in a section.
use Rattle.std.specs.Prelude.{ℕ, ◌+◌, ◌*◌, ◌≤◌, ◌<◌, ◌≡◌, List, length}
use Rattle.section.specs.Limits.{edition1}
use Rattle.clip.specs.{Fields.{Records}, Section.{initial_at, additional_at}}
use Rattle.blocks.specs.declared.{block.Block.{Block}, kind.Kind.{Kind}, track.TrackIndex.{TrackIndex}}
use Rattle.blocks.specs.Track.{kind_of_track, number_of_track}

-- A body's bytes: 44 of a bone, 4 of a morph.
abbrev pub body_size : Kind → ℕ
body_size Kind.Bone = 44
body_size Kind.Morph = 4

-- The build fields with a body's offset for the body.
abbrev pub links : List ℕ → Block → Records ℕ
links s b =
    record {
      tracks = b.initials.count;
      initial = λ t. initial_at (λ s at. at) s (b.initials.offset + t * b.initials.width);
      additional = b.records.count;
      at = λ p. additional_at (λ s at. at) s (b.records.offset + p * b.records.width);
    }

-- The blocks stand in the lent bytes, and within 01's limits.
pub record Fits (s : List ℕ) (b : Block) : Type 0 where
  pub initials : b.initials.offset + b.initials.count * b.initials.width ≤ length s
  pub records : b.records.offset + b.records.count * b.records.width ≤ length s
  pub initial_width : 12 + body_size b.kind ≤ b.initials.width
  pub record_width : 16 + body_size b.kind ≤ b.records.width
  pub few_tracks : b.initials.count ≤ edition1.tracks
  pub few_records : b.records.count ≤ edition1.additional

-- A track of a block is of its kind, and below its count.
pub record TrackOf (b : Block) (track : TrackIndex) : Type 0 where
  pub kind : kind_of_track track ≡ b.kind
  pub below : number_of_track track < b.initials.count
