-- Document 01, module 2 (FORMAT, Calls by number): states by number, and the bools and pairs of a model record.
use Rattle.std.specs.Prelude.{true, false, List, [], ◌∷◌, ◌++◌}
use Rattle.section.specs.Limits.{edition1}
use Rattle.entries.specs.States.{bone_state, morph_state, constraint_state, outside_parent_state}
use Rattle.entries.specs.ModelLists.{model_keyframe_constraint_state, model_keyframe_outside_parent}
use Rattle.answer_numbers.specs.States as number
use Rattle.answer_cases.specs.Bytes.{from}
use Rattle.answer_cases.specs.Sections.{model_section}
use Rattle.answer_cases.specs.Table.{Case, case, told, bits_of_minus_one}

-- Translation, orientation, dirty, physics disabled and selected; a weight; a bool; an outside parent's four indices.
abbrev pub states : List Case
states =
    case (told number.bone_state (bone_state edition1 0 model_section 0)) (0 ∷ from 1 7 ++ 1 ∷ 0 ∷ 0 ∷ [])
    ∷ case (told number.bone_state (bone_state edition1 1 model_section 0)) (0 ∷ from 11 7 ++ 0 ∷ 1 ∷ 1 ∷ [])
    ∷ case (told number.bone_state (bone_state edition1 2 model_section 0)) (19 ∷ [])
    ∷ case (told number.morph_state (morph_state edition1 1 model_section 0)) (0 ∷ 2147483657 ∷ [])
    ∷ case (told number.morph_state (morph_state edition1 2 model_section 0)) (0 ∷ 6 ∷ [])
    ∷ case (told number.flag (constraint_state edition1 0 model_section 0)) (0 ∷ 1 ∷ [])
    ∷ case (told number.flag (constraint_state edition1 1 model_section 0)) (0 ∷ 0 ∷ [])
    ∷ case (told number.flag (constraint_state edition1 2 model_section 0)) (19 ∷ [])
    ∷ case (told number.outside_parent (outside_parent_state edition1 0 model_section 0)) (0 ∷ bits_of_minus_one ∷ from 2 3)
    ∷ case (told number.outside_parent (outside_parent_state edition1 1 model_section 0)) (19 ∷ [])
    ∷ []

-- By the record's list and number, and the entry's; a pair is a model and a bone.
abbrev pub model_lists : List Case
model_lists =
    case (told number.flag (model_keyframe_constraint_state edition1 false 0 0 model_section 0)) (0 ∷ 0 ∷ [])
    ∷ case (told number.flag (model_keyframe_constraint_state edition1 true 0 1 model_section 0)) (0 ∷ 1 ∷ [])
    ∷ case (told number.flag (model_keyframe_constraint_state edition1 true 0 2 model_section 0)) (19 ∷ [])
    ∷ case (told number.pair (model_keyframe_outside_parent edition1 false 0 0 model_section 0)) (0 ∷ 13 ∷ 14 ∷ [])
    ∷ case (told number.pair (model_keyframe_outside_parent edition1 true 0 0 model_section 0)) (0 ∷ 23 ∷ 24 ∷ [])
    ∷ case (told number.pair (model_keyframe_outside_parent edition1 true 0 1 model_section 0)) (19 ∷ [])
    ∷ []
