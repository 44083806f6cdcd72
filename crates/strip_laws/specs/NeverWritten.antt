-- Document 02, T-02 (FORMAT, Strips read back): "It refuses with 25 what the builder never writes: a plain field present, a curve byte
-- above 127, a float or orientation that 12 to 14 would stop, a frame above 2,147,483,647 or repeated in its track, a track without keys,
-- additional keys of one kind above 65,534." So nothing of it is told of an accepted strip; of plain fields Written speaks. The proof is
-- in proofs/NeverWritten.antt.
use Rattle.std.specs.Prelude.{ℕ, ◌+◌, ◌<◌, ◌≤◌, List, ◌≡◌, All}
use Rattle.std.specs.List.{concat}
use Rattle.std.proofs.Math.Option.{none}
use Rattle.layout.specs.Numbers.{float}
use Rattle.records.specs.Pose.{pose_of}
use Rattle.clip.specs.Keys.{pose_asked, weight_asked}
use Rattle.blocks.specs.declared.track.TrackIndex.{TrackIndex}
use Rattle.strip_reader.specs.declared.key.{BoneKey.{BoneKey}, MorphKey.{MorphKey}, StripKey.{StripKey}}
use Rattle.strip_laws.specs.{Judged.{IsTrack}, Told.{Told}, Rows.{bone_keys, morph_keys}}

abbrev pub frame_of : StripKey → ℕ
frame_of (StripKey.Bone k) = k.frame
frame_of (StripKey.Morph k) = k.frame

-- What 12 to 14 ask of a key is met, and "each byte above 127 counts as 127".
pub record FineBone (k : BoneKey) : Type 0 where
  pub pose : pose_asked (pose_of k.pose_bits) ≡ none
  pub curves : All (λ b. b ≤ 127) (concat k.curves)

pub record FineMorph (k : MorphKey) : Type 0 where
  pub weight : weight_asked (float k.weight_bits) ≡ none

abbrev pub FineKey : StripKey → Type 0
FineKey (StripKey.Bone k) = FineBone k
FineKey (StripKey.Morph k) = FineMorph k

module _ {strip : List ℕ} (told : Told strip) where
  pub record FineTrack (track : TrackIndex) : Type 0 where
    pub some : 0 < told.number track
    pub fine : (place : ℕ) → place < told.number track → FineKey (told.key track place)
    pub frames : (place : ℕ) → place < told.number track → frame_of (told.key track place) ≤ 2147483647
    pub once : (p q : ℕ) → p < q → q < told.number track → frame_of (told.key track p) ≡ frame_of (told.key track q) → ⊥

  pub record FineStrip : Type 0 where
    pub tracks : (track : TrackIndex) → IsTrack told.counts track → FineTrack track
    -- All keys but the first of each track are additional.
    pub bones : bone_keys told told.counts.bones ≤ told.counts.bones + 65534
    pub morphs : morph_keys told told.counts.morphs ≤ told.counts.morphs + 65534

abbrev pub AcceptedFine : Type 0
AcceptedFine = (strip : List ℕ) → All (λ b. b < 256) strip → (told : Told strip) → FineStrip told
