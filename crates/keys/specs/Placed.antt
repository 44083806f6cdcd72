-- Bytes that are written into an output, and what the rest of it is then.
use Rattle.std.specs.{Prelude.{ℕ, ◌+◌, ◌≤◌, cond, List, [], ◌∷◌, ◌++◌, ◌≡◌, length, take, drop, get_or, Float}, Float.{binary32}}
use Rattle.std.specs.Float.Ieee.{to_bits}
use Rattle.clip.specs.Section.{bone_body, morph_body}
use Rattle.strip.specs.{Numbers.{little_endian}, Plain.{bone_groups, bone_fields, morph_groups, morph_fields}, Keys.{key_bytes}}
use Rattle.keys.specs.declared.plain.BonePlain.{BonePlain}

unfoldable pub placed : ℕ → List ℕ → List ℕ → List ℕ
placed place bytes old = take place old ++ bytes ++ drop (place + length bytes) old

-- There is room for the bytes at the place.
abbrev pub Room : ℕ → List ℕ → List ℕ → Type 0
Room place bytes output = place + length bytes ≤ length output

-- The bytes were written at a place: where they end, and what the output is afterwards.
pub record Wrote (place : ℕ) (bytes old : List ℕ) (end : ℕ) (new : List ℕ) : Type 0 where
  pub ends : end ≡ place + length bytes
  pub leaves : new ≡ placed place bytes old

-- The key of the record whose body stands at an offset of a section, in a strip.
abbrev pub bone_key_bytes : List ℕ → ℕ → ℕ → List ℕ
bone_key_bytes s at frame = key_bytes bone_groups bone_fields (record { frame = frame; body = bone_body s at })

abbrev pub morph_key_bytes : List ℕ → ℕ → ℕ → List ℕ
morph_key_bytes s at frame = key_bytes morph_groups morph_fields (record { frame = frame; body = morph_body s at })

-- A morph key by its frame and its weight. Here the float is given, not read (layout, Numbers: `float`): its bytes are those of its bits.
abbrev pub weight_key_bytes : ℕ → Float → List ℕ
weight_key_bytes frame weight = key_bytes morph_groups morph_fields (record { frame = frame; body = little_endian 4 (to_bits binary32 weight) })

-- The parts of a key as they are written: frame and map byte; the pose and the curves, each group unless it is plain.
abbrev pub head_bytes : ℕ → ℕ → List ℕ
head_bytes frame map = little_endian 4 frame ++ map ∷ []

abbrev pub pose_bytes : BonePlain → List ℕ → ℕ → List ℕ
pose_bytes p s at = cond p.translation [] (bone_body s at).translation ++ cond p.orientation [] (bone_body s at).orientation

abbrev pub three_curves : List (List ℕ) → List ℕ
three_curves curves = get_or curves 0 [] ++ get_or curves 1 [] ++ get_or curves 2 []

abbrev pub curve_bytes : BonePlain → List (List ℕ) → List ℕ
curve_bytes p curves = cond p.curves [] (three_curves curves) ++ cond p.rotation [] (get_or curves 3 [])
