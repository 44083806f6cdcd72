-- Document 02, T-02 (FORMAT, Strips read back): "writing the keys of any accepted strip again gives the same strip". The keys are those
-- that the calls answer, absent fields filled in, and are written by 01's rule, by which a bit stands unless its group is plain; the maps
-- that are answered are not used. The proof is in proofs/Written.antt.
use Rattle.std.specs.Prelude.{ℕ, ◌<◌, List, [], ◌∷◌, ◌≡◌, take, drop, All}
use Rattle.std.specs.List.{concat}
use Rattle.strip.specs.{Plain.{floats, bone_groups, morph_groups}, Keys.{map_byte}, Work.{each}, Strip.{count_width, FieldsKey, Contents, strip_bytes}}
use Rattle.blocks.specs.declared.track.TrackIndex.{TrackIndex}
use Rattle.strip_reader.specs.declared.key.{BoneKey.{BoneKey}, MorphKey.{MorphKey}, StripKey.{StripKey}}
use Rattle.strip_laws.specs.{Judged.{IsTrack}, Told.{Told, bone_track, morph_track}}

-- A key to be written, of one that was answered: its frame, and the bytes of each group, as 01 has them: "translation (12 bytes) ..
-- orientation (16) .. the x, y, z curves (12) .. the rotation curve (4)"; a morph's "weight (4)".
abbrev pub written_key : StripKey → FieldsKey
written_key (StripKey.Bone k) =
    record {
      frame = k.frame;
      body = floats k.pose_bits.translation ∷ floats k.pose_bits.orientation ∷ concat (take 3 k.curves) ∷ concat (drop 3 k.curves) ∷ [];
    }
written_key (StripKey.Morph k) = record { frame = k.frame; body = floats (k.weight_bits ∷ []) ∷ [] }

module _ {strip : List ℕ} (told : Told strip) where
  abbrev pub written_track : TrackIndex → List FieldsKey
  written_track track = each (told.number track) (λ place. written_key (told.key track place))

  abbrev pub written : Contents
  written =
      record {
        bones = each told.counts.bones (λ t. written_track (bone_track t));
        morphs = each told.counts.morphs (λ t. written_track (morph_track t));
      }

-- "bit for bit": frame, curves and the bits of every float.
pub record SameBoneBits (k l : BoneKey) : Type 0 where
  pub frame : k.frame ≡ l.frame
  pub pose_bits : k.pose_bits ≡ l.pose_bits
  pub curves : k.curves ≡ l.curves

pub record SameMorphBits (k l : MorphKey) : Type 0 where
  pub frame : k.frame ≡ l.frame
  pub weight_bits : k.weight_bits ≡ l.weight_bits

abbrev pub SameBits : StripKey → StripKey → Type 0
SameBits (StripKey.Bone k) (StripKey.Bone l) = SameBoneBits k l
SameBits (StripKey.Bone k) (StripKey.Morph l) = ⊥
SameBits (StripKey.Morph k) (StripKey.Bone l) = ⊥
SameBits (StripKey.Morph k) (StripKey.Morph l) = SameMorphBits k l

-- Of two strips as many tracks and keys are told, those in the same place equal bit for bit.
pub record SameTold {strip₁ strip₂ : List ℕ} (told₁ : Told strip₁) (told₂ : Told strip₂) : Type 0 where
  pub counts : told₁.counts ≡ told₂.counts
  pub numbers : (track : TrackIndex) → IsTrack told₁.counts track → told₁.number track ≡ told₂.number track
  pub keys :
      (track : TrackIndex) → IsTrack told₁.counts track
      → (place : ℕ) → place < told₁.number track → SameBits (told₁.key track place) (told₂.key track place)

pub record WrittenAgain : Type 0 where
  pub same : (strip : List ℕ) → All (λ b. b < 256) strip → (told : Told strip) → strip_bytes count_width (written told) ≡ strip
  -- So two accepted strips whose answered keys are equal bit for bit are the same bytes.
  pub equal :
      (strip₁ strip₂ : List ℕ) → All (λ b. b < 256) strip₁ → All (λ b. b < 256) strip₂
      → (told₁ : Told strip₁) (told₂ : Told strip₂) → SameTold told₁ told₂ → strip₁ ≡ strip₂

-- "A map byte names which fields follow": the map that is told of a key is the one that is written of it. The proof is in
-- proofs/ToldFields.antt.
abbrev pub MapIs : StripKey → Type 0
MapIs (StripKey.Bone k) = k.map ≡ map_byte bone_groups (written_key (StripKey.Bone k)).body
MapIs (StripKey.Morph k) = k.map ≡ map_byte morph_groups (written_key (StripKey.Morph k)).body

abbrev pub MapsTold : Type 0
MapsTold =
    (strip : List ℕ) → All (λ b. b < 256) strip → (told : Told strip)
    → (track : TrackIndex) → IsTrack told.counts track → (place : ℕ) → place < told.number track → MapIs (told.key track place)
