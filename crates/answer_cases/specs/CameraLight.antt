-- Document 01, "Records" (FORMAT, Records): camera and light sections and their records, as include/limdroven.h lists their numbers.
use Rattle.std.specs.Prelude.{true, false, List, [], ◌∷◌, ◌++◌, take}
use Rattle.section.specs.Limits.{edition1}
use Rattle.camera_light.specs.{Track.{track_summary}, Camera.{camera_keyframe, curves_part}, Light.{light_keyframe}}
use Rattle.camera_light.specs.declared.track.Kind.{Kind}
use Rattle.answer_numbers.specs.Tracks as number
use Rattle.answer_cases.specs.Bytes.{zeros, from}
use Rattle.answer_cases.specs.Sections.{camera_section, light_section}
use Rattle.answer_cases.specs.Table.{Case, case, told, no_index}

-- Where the section begins and ends; how many records, initial and additional; where the count, the additional ones, their end, the state
-- and its end stand. The first section starts at 2; of the last, the state, at 82, is not whole.
abbrev pub tracks : List Case
tracks =
    case
    (told number.track_summary (track_summary edition1 Kind.Camera (zeros 2 ++ camera_section) 2))
    (0 ∷ 2 ∷ 203 ∷ 1 ∷ 1 ∷ 80 ∷ 84 ∷ 166 ∷ 166 ∷ 203 ∷ [])
    ∷ case
    (told number.track_summary (track_summary edition1 Kind.Light light_section 0))
    (0 ∷ 0 ∷ 106 ∷ 1 ∷ 1 ∷ 37 ∷ 41 ∷ 82 ∷ 82 ∷ 106 ∷ [])
    ∷ case (told number.track_summary (track_summary edition1 Kind.Light (take 105 light_section) 0)) (1 ∷ 82 ∷ [])
    ∷ []

-- Index, frame and links, distance, look-at and angle; parent model and bone, perspective, field of view and selected; where each stands,
-- from the distance on, the curves among them, with the length of look-at, angle and curves; where the record and its payload stand. The
-- perspective byte is 0, then 1. Last the curves' bytes, and none.
abbrev pub cameras : List Case
cameras =
    case
    (told number.camera (camera_keyframe edition1 false 0 camera_section 0))
    (0 ∷ no_index ∷ from 10 12 ++ 1 ∷ 22 ∷ 1
    ∷ 12 ∷ 16 ∷ 12 ∷ 28 ∷ 12 ∷ 40 ∷ 44 ∷ 48 ∷ 24 ∷ 72 ∷ 73 ∷ 77 ∷ 0 ∷ 78 ∷ 12 ∷ 66 ∷ [])
    ∷ case
    (told number.camera (camera_keyframe edition1 true 0 camera_section 0))
    (0 ∷ 99 ∷ from 30 12 ++ 0 ∷ 42 ∷ 1
    ∷ 98 ∷ 102 ∷ 12 ∷ 114 ∷ 12 ∷ 126 ∷ 130 ∷ 134 ∷ 24 ∷ 158 ∷ 159 ∷ 163 ∷ 82 ∷ 82 ∷ 98 ∷ 66 ∷ [])
    ∷ case (told number.camera (camera_keyframe edition1 true 1 camera_section 0)) (19 ∷ [])
    ∷ case (curves_part (camera_keyframe edition1 true 0 camera_section 0) camera_section) (from 1 24)
    ∷ case (curves_part (camera_keyframe edition1 true 1 camera_section 0) camera_section) []
    ∷ []

-- Index, frame and links, colour and direction; selected; where colour, direction and selected stand, with the length of the first two;
-- where the record and its payload stand.
abbrev pub lights : List Case
lights =
    case
    (told number.light (light_keyframe edition1 false 0 light_section 0))
    (0 ∷ no_index ∷ from 10 9 ++ 1 ∷ 12 ∷ 12 ∷ 24 ∷ 12 ∷ 36 ∷ 0 ∷ 37 ∷ 12 ∷ 25 ∷ [])
    ∷ case
    (told number.light (light_keyframe edition1 true 0 light_section 0))
    (0 ∷ 99 ∷ from 30 9 ++ 1 ∷ 57 ∷ 12 ∷ 69 ∷ 12 ∷ 81 ∷ 41 ∷ 41 ∷ 57 ∷ 25 ∷ [])
    ∷ case (told number.light (light_keyframe edition1 false 1 light_section 0)) (19 ∷ [])
    ∷ []
