-- Document 01, "Records" and module 2 (FORMAT, Records and Calls by number): records by number, as include/limdroven.h lists their numbers.
use Rattle.std.specs.Prelude.{true, false, List, [], ◌∷◌, ◌++◌, take}
use Rattle.section.specs.Limits.{edition1}
use Rattle.entries.specs.Keyframes.{bone_keyframe, morph_keyframe, model_keyframe}
use Rattle.answer_numbers.specs.Keyframes as number
use Rattle.answer_cases.specs.Bytes.{from}
use Rattle.answer_cases.specs.Sections.{model_section}
use Rattle.answer_cases.specs.Table.{Case, case, told, no_index, bits_of_minus_one}

-- Index, frame and links; translation, orientation, physics disabled and selected; where the record and its payload stand. Then the number
-- behind the last of either list, and a section that is not read, of which the path, at 6, is not whole.
abbrev pub bones : List Case
bones =
    case (told number.bone (bone_keyframe edition1 false 1 model_section 0)) (0 ∷ no_index ∷ from 30 10 ++ 0 ∷ 1 ∷ 391 ∷ 58 ∷ 403 ∷ 46 ∷ [])
    ∷ case (told number.bone (bone_keyframe edition1 true 0 model_section 0)) (0 ∷ 99 ∷ from 50 10 ++ 1 ∷ 0 ∷ 453 ∷ 62 ∷ 469 ∷ 46 ∷ [])
    ∷ case (told number.bone (bone_keyframe edition1 true 1 model_section 0)) (0 ∷ 98 ∷ from 70 10 ++ 0 ∷ 1 ∷ 515 ∷ 62 ∷ 531 ∷ 46 ∷ [])
    ∷ case (told number.bone (bone_keyframe edition1 false 2 model_section 0)) (19 ∷ [])
    ∷ case (told number.bone (bone_keyframe edition1 true 2 model_section 0)) (19 ∷ [])
    ∷ case (told number.bone (bone_keyframe edition1 true 9 (take 100 model_section) 0)) (1 ∷ 6 ∷ [])
    ∷ []

-- Index, frame and links; weight and selected; where the record and its payload stand.
abbrev pub morphs : List Case
morphs =
    case (told number.morph (morph_keyframe edition1 false 2 model_section 0)) (0 ∷ no_index ∷ from 30 4 ++ 0 ∷ 611 ∷ 17 ∷ 623 ∷ 5 ∷ [])
    ∷ case
    (told number.morph (morph_keyframe edition1 true 0 model_section 0))
    (0 ∷ 97 ∷ bits_of_minus_one ∷ 41 ∷ 42 ∷ 4290772993 ∷ 1 ∷ 632 ∷ 21 ∷ 648 ∷ 5 ∷ [])
    ∷ case (told number.morph (morph_keyframe edition1 true 1 model_section 0)) (19 ∷ [])
    ∷ []

-- Index, frame and links; visible, self shadow and where the first stands; how many bools, where, and in how many bytes; the same of pairs;
-- where self shadow stands; where the record and its payload stand.
abbrev pub models : List Case
models =
    case
    (told number.model (model_keyframe edition1 false 0 model_section 0))
    (0 ∷ no_index ∷ from 10 3 ++ 1 ∷ 0 ∷ 665 ∷ 2 ∷ 666 ∷ 2 ∷ 1 ∷ 668 ∷ 8 ∷ 676 ∷ 653 ∷ 24 ∷ 665 ∷ 12 ∷ [])
    ∷ case
    (told number.model (model_keyframe edition1 true 0 model_section 0))
    (0 ∷ 96 ∷ from 20 3 ++ 1 ∷ 0 ∷ 697 ∷ 2 ∷ 698 ∷ 2 ∷ 1 ∷ 700 ∷ 8 ∷ 708 ∷ 681 ∷ 28 ∷ 697 ∷ 12 ∷ [])
    ∷ case (told number.model (model_keyframe edition1 false 1 model_section 0)) (19 ∷ [])
    ∷ []
