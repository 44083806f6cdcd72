-- Document 01 (FORMAT, Numbers): "f32 is IEEE 754 binary32". The floats of the summaries, each by its bits.
use Rattle.std.specs.Prelude.{ℕ, true, false, List, [], ◌∷◌, ◌++◌, map, Float}
use Rattle.std.specs.{Float.{binary32}, Float.Ieee.{to_bits}}
use Rattle.section.specs.{Limits.{edition1}, Summary.{model_summary}}
use Rattle.records.specs.declared.pose.Pose.{Pose}
use Rattle.entries.specs.{Keyframes.{bone_keyframe, morph_keyframe}, States.{bone_state, morph_state}}
use Rattle.camera_light.specs.{Camera.{camera_keyframe}, Light.{light_keyframe}}
use Rattle.answer_cases.specs.Bytes.{from}
use Rattle.answer_cases.specs.Sections.{model_section, camera_section, light_section}
use Rattle.answer_cases.specs.Table.{Case, case, told}

abbrev pub bits : List Float → List ℕ
bits floats = map (to_bits binary32) floats

abbrev pub pose : Pose → List ℕ
pose p =
    bits (p.translation_x ∷ p.translation_y ∷ p.translation_z ∷ p.orientation_x ∷ p.orientation_y ∷ p.orientation_z ∷ p.orientation_w ∷ [])

-- The weight of the additional morph record, 0xffc00001 in the section, is as a float the one NaN that there is, whose bits are 0x7fc00000.
abbrev pub floats : List Case
floats =
    case (told (λ b. pose b.pose) (bone_keyframe edition1 true 0 model_section 0)) (0 ∷ from 53 7)
    ∷ case (told (λ m. bits (m.weight ∷ [])) (morph_keyframe edition1 false 2 model_section 0)) (0 ∷ 33 ∷ [])
    ∷ case (told (λ m. bits (m.weight ∷ [])) (morph_keyframe edition1 true 0 model_section 0)) (0 ∷ 2143289344 ∷ [])
    ∷ case (told (λ b. pose b.pose) (bone_state edition1 1 model_section 0)) (0 ∷ from 11 7)
    ∷ case (told (λ m. bits (m.weight ∷ [])) (morph_state edition1 1 model_section 0)) (0 ∷ 2147483657 ∷ [])
    ∷ case (told (λ m. bits (m.edge_width ∷ [])) (model_summary edition1 model_section 0)) (0 ∷ 8 ∷ [])
    ∷ case (told (λ c. bits (c.distance ∷ c.look_at ++ c.angle)) (camera_keyframe edition1 false 0 camera_section 0)) (0 ∷ from 13 7)
    ∷ case (told (λ l. bits (l.color ++ l.direction)) (light_keyframe edition1 false 0 light_section 0)) (0 ∷ from 13 6)
    ∷ []
