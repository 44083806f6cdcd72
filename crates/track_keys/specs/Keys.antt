-- What is asked of a key of a track.
use Rattle.std.specs.Prelude.{ℕ, Bool, List}
use Rattle.std.proofs.Math.Option.{Option, none}
use Rattle.layout.specs.Walk.{Refusal}
use Rattle.clip.specs.Fields as Fields
use Rattle.clip.specs.{Keys.{posed, pose_asked, weight_asked, float_at, key_refusal}, Section.{bone_body, morph_body}}
use Rattle.blocks.specs.Kind.{kind_of}
use Rattle.blocks.specs.declared.kind.Kind.{Kind}

-- What is asked of the body at an offset.
abbrev pub asked_at : List ℕ → Kind → ℕ → Option ℕ
asked_at s Kind.Bone at = pose_asked (posed (bone_body s at))
asked_at s Kind.Morph at = weight_asked (float_at (morph_body s at) 0)

-- What a key meets where it is known whether its frame is repeated: by the frame alone, and with the body at an offset.
abbrev pub frame_meets : Fields.Kind → ℕ → ℕ → Bool → Option Refusal
frame_meets kind track frame repeated = key_refusal kind repeated none track frame

abbrev pub key_meets : List ℕ → Kind → ℕ → ℕ → ℕ → Bool → Option Refusal
key_meets s kind track frame body repeated = key_refusal (kind_of kind) repeated (asked_at s kind body) track frame
