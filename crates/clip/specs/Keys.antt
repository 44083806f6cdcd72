-- Document 01, "Build order" and "Turned down" (FORMAT, The build): what is asked of each key.
use Rattle.std.specs.Prelude.{ℕ, Bool, true, false, not, ◌&&◌, ◌||◌, List, [], ◌∷◌, pos, negsuc, Float}
use Rattle.std.proofs.Math.Option.{Option, none, some}
use Rattle.std.specs.Float.{nan, inf, fin, binary32}
use Rattle.std.specs.Float.Ieee.{add, mul, le}
use Rattle.layout.specs.Refusals.{negative_frame, repeated_frame, invalid_translation, invalid_orientation, invalid_weight}
use Rattle.layout.specs.{Numbers.{signed, negative, float}, Walk.{Refusal, refusal, u32_at}}
use Rattle.records.specs.{Pose.{pose_of}, declared.pose.{Pose.{Pose}, PoseBits.{PoseBits}}}
use Rattle.clip.specs.{First.{given, ◌or◌, member}, Fields.{BoneBody, Kind, bone, morph, refusal_of}}

pub record Key (B : Type 0) : Type 0 where
  pub frame : ℕ
  pub body : B

-- What is asked of a key: the track, the frames before it in the track, the last one first, and the key.
abbrev pub KeyTest : Type 0 → Type 0
KeyTest B = ℕ → List ℕ → Key B → Option Refusal

-- The number of the refusal that a body meets, with the values (track, frame).
abbrev pub body_refusal : Option ℕ → ℕ → ℕ → Option Refusal
body_refusal none track frame = none
body_refusal (some number) track frame = some (refusal number (pos track ∷ signed frame ∷ []))

-- "10 negative frame (track, frame). 11 frame repeated in a track (track, frame)." Then what is asked of the body.
abbrev pub key_refusal : Kind → Bool → Option ℕ → ℕ → ℕ → Option Refusal
key_refusal kind repeated asked track frame =
    given (negative frame) (refusal_of kind negative_frame (pos track ∷ signed frame ∷ []))
    or given repeated (refusal_of kind repeated_frame (pos track ∷ signed frame ∷ []))
    or body_refusal asked track frame

unfoldable pub key_test : {B : Type 0} → Kind → (B → Option ℕ) → KeyTest B
key_test kind asked track before key = key_refusal kind (member key.frame before) (asked key.body) track key.frame

abbrev pub finite : Float → Bool
finite nan = false
finite (inf s) = false
finite (fin s m e) = true

-- "Squared orientation length is ((x·x + y·y) + z·z) + w·w in f32, one rounding for each operation .. The limit is 2^-23, equality
-- refused."
abbrev pub squared : Float → Float
squared x = mul binary32 x x

unfoldable pub squared_length : Float → Float → Float → Float → Float
squared_length x y z w = add binary32 (add binary32 (add binary32 (squared x) (squared y)) (squared z)) (squared w)

abbrev pub limit : Float
limit = fin false 1 (negsuc 22)

-- "12 translation not finite, 13 orientation not finite or too short"
unfoldable pub translation_fails : Pose → Bool
translation_fails p = not (finite p.translation_x && finite p.translation_y && finite p.translation_z)

unfoldable pub orientation_fails : Pose → Bool
orientation_fails p =
    not (finite p.orientation_x && finite p.orientation_y && finite p.orientation_z && finite p.orientation_w)
    || le (squared_length p.orientation_x p.orientation_y p.orientation_z p.orientation_w) limit

unfoldable pub pose_asked : Pose → Option ℕ
pose_asked p = given (translation_fails p) invalid_translation or given (orientation_fails p) invalid_orientation

-- The float of the 4 bytes from a place on.
abbrev pub float_at : List ℕ → ℕ → Float
float_at bytes at = float (u32_at bytes at)

-- "pose bits": the numbers of 4 bytes that a body's translation and orientation hold, and the pose that they make.
abbrev pub pose_bits_of : BoneBody → PoseBits
pose_bits_of b =
    record {
      translation = u32_at b.translation 0 ∷ u32_at b.translation 4 ∷ u32_at b.translation 8 ∷ [];
      orientation = u32_at b.orientation 0 ∷ u32_at b.orientation 4 ∷ u32_at b.orientation 8 ∷ u32_at b.orientation 12 ∷ [];
    }

abbrev pub posed : BoneBody → Pose
posed b = pose_of (pose_bits_of b)

-- "14 weight not finite"
unfoldable pub weight_asked : Float → Option ℕ
weight_asked weight = given (not (finite weight)) invalid_weight

abbrev pub bone_test : KeyTest BoneBody
bone_test = key_test bone (λ b. pose_asked (posed b))

abbrev pub morph_test : KeyTest (List ℕ)
morph_test = key_test morph (λ w. weight_asked (float_at w 0))
