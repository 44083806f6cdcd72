-- Document 01, modules 2 and 7 (FORMAT, Calls by number): texts, payloads and curves, "handed back as the part of the section that holds
-- it; a refused call of this kind hands back an empty part".
use Rattle.std.specs.{Prelude.{true, List, [], ◌∷◌, ◌++◌, take}, List.{concat}}
use Rattle.section.specs.Limits.{edition1}
use Rattle.entries.specs.Keyframes.{bone_keyframe, morph_keyframe}
use Rattle.entries.specs.{Texts.{text_of}, declared.texts.Text.{Text}, Parts.{part_or, payload_or}, Interpolation.{curves_or}}
use Rattle.answer_numbers.specs.Spans as number
use Rattle.answer_cases.specs.Bytes.{zeros, smalls, from}
use Rattle.answer_cases.specs.Sections.{nan, model_section}
use Rattle.answer_cases.specs.Table.{Case, case, told}

-- Offset and length. The path ends before its first zero byte; a name may have no bytes.
abbrev pub spans : List Case
spans =
    case (told number.span (text_of edition1 Text.Name model_section 0)) (0 ∷ 2 ∷ 2 ∷ [])
    ∷ case (told number.span (text_of edition1 Text.EnglishName model_section 0)) (0 ∷ 5 ∷ 1 ∷ [])
    ∷ case (told number.span (text_of edition1 Text.Path model_section 0)) (0 ∷ 6 ∷ 3 ∷ [])
    ∷ case (told number.span (text_of edition1 (Text.Bone 1) model_section 0)) (0 ∷ 270 ∷ 2 ∷ [])
    ∷ case (told number.span (text_of edition1 (Text.Morph 0) model_section 0)) (0 ∷ 277 ∷ 0 ∷ [])
    ∷ case (told number.span (text_of edition1 (Text.Morph 2) model_section 0)) (0 ∷ 280 ∷ 1 ∷ [])
    ∷ case (told number.span (text_of edition1 (Text.Bone 2) model_section 0)) (19 ∷ [])
    ∷ []

-- The bytes of a name, and of one that is not there; of payloads and of none; a bone's curves, and what stands for none.
abbrev pub parts : List Case
parts =
    case (part_or (text_of edition1 (Text.Bone 1) model_section 0) model_section) (121 ∷ 122 ∷ [])
    ∷ case (part_or (text_of edition1 (Text.Bone 2) model_section 0) model_section) []
    ∷ case (payload_or (λ b. b.span) (bone_keyframe edition1 true 0 model_section 0) model_section) (from 1 16 ++ smalls (from 53 7) ++ 2 ∷ 0 ∷ [])
    ∷ case (payload_or (λ m. m.span) (morph_keyframe edition1 true 0 model_section 0) model_section) (nan ++ 1 ∷ [])
    ∷ case (payload_or (λ m. m.span) (morph_keyframe edition1 true 1 model_section 0) model_section) []
    ∷ case (take 16 (payload_or (λ b. b.span) (bone_keyframe edition1 true 1 model_section 0) model_section)) (from 1 16)
    ∷ case (concat (curves_or (bone_keyframe edition1 true 1 model_section 0) model_section)) (from 1 16)
    ∷ case (concat (curves_or (bone_keyframe edition1 true 2 model_section 0) model_section)) (zeros 16)
    ∷ []
