-- Document 02, T-02 (FORMAT, Strips read back): "equal frames, curves and float values". What a call tells of a key, against the key that
-- was built.
use Rattle.std.specs.Prelude.{ℕ, true, List, ◌≡◌}
use Rattle.std.specs.Float.Ieee.{eq}
use Rattle.layout.specs.Numbers.{float}
use Rattle.records.specs.{Curves.{curves_at}, Pose.{pose_of}, declared.pose.Pose.{Pose}}
use Rattle.clip.specs.{Fields.{BoneBody}, Keys.{Key, posed, float_at}}
use Rattle.strip.specs.Plain.{clamped}
use Rattle.strip_reader.specs.declared.key.{BoneKey.{BoneKey}, MorphKey.{MorphKey}, StripKey.{StripKey}}

-- Float by float, by IEEE 754's equality: a zero of either sign equals the other.
pub record SamePose (read built : Pose) : Type 0 where
  pub translation_x : eq read.translation_x built.translation_x ≡ true
  pub translation_y : eq read.translation_y built.translation_y ≡ true
  pub translation_z : eq read.translation_z built.translation_z ≡ true
  pub orientation_x : eq read.orientation_x built.orientation_x ≡ true
  pub orientation_y : eq read.orientation_y built.orientation_y ≡ true
  pub orientation_z : eq read.orientation_z built.orientation_z ≡ true
  pub orientation_w : eq read.orientation_w built.orientation_w ≡ true

-- "each byte above 127 counts as 127 in a clip"
pub record SameBone (read : BoneKey) (built : Key BoneBody) : Type 0 where
  pub frame : read.frame ≡ built.frame
  pub curves : read.curves ≡ curves_at (clamped built.body.interpolation) 0
  pub pose : SamePose (pose_of read.pose_bits) (posed built.body)

pub record SameMorph (read : MorphKey) (built : Key (List ℕ)) : Type 0 where
  pub frame : read.frame ≡ built.frame
  pub weight : eq (float read.weight_bits) (float_at built.body 0) ≡ true

-- A key of the kind that was asked for.
abbrev pub SameBoneKey : StripKey → Key BoneBody → Type 0
SameBoneKey (StripKey.Bone read) built = SameBone read built
SameBoneKey (StripKey.Morph read) built = ⊥

abbrev pub SameMorphKey : StripKey → Key (List ℕ) → Type 0
SameMorphKey (StripKey.Bone read) built = ⊥
SameMorphKey (StripKey.Morph read) built = SameMorph read built
