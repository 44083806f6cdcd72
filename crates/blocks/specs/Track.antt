-- The kind and the number of a track.
use Rattle.std.specs.Prelude.{ℕ}
use Rattle.blocks.specs.declared.{kind.Kind.{Kind}, track.TrackIndex.{TrackIndex}}

abbrev pub kind_of_track : TrackIndex → Kind
kind_of_track (TrackIndex.Bone bone) = Kind.Bone
kind_of_track (TrackIndex.Morph morph) = Kind.Morph

abbrev pub number_of_track : TrackIndex → ℕ
number_of_track (TrackIndex.Bone bone) = bone.0
number_of_track (TrackIndex.Morph morph) = morph.0
