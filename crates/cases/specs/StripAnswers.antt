-- Document 02, T-02 (FORMAT, Strips read back): what the calls that read a strip answer of one, and what they put into the slice for rows.
use Rattle.std.specs.Prelude.{ℕ, List, [], ◌∷◌, ◌++◌, replicate}
use Rattle.layout.specs.Walk.{Refusal, refusal, Answer, answered, declined}
use Rattle.section.specs.Limits.{edition1}
use Rattle.clip.specs.Fields.{bone, morph}
use Rattle.strip.specs.Strip.{count_width}
use Rattle.strip_reader.specs.Answers.{reader_refusal, counts, key_count, key, KeysOutcome, keys}
use Rattle.strip_reader.specs.declared.{refusal.ReaderRefusal.{ReaderRefusal}, counts.StripCounts.{StripCounts}}
use Rattle.strip_reader.specs.declared.key.{StripKey.{StripKey}}
use Rattle.answer_cases.specs.Bytes.{zeros, small}
use Rattle.cases.specs.Sections.{one}
use Rattle.cases.specs.Case.{nines}
use Rattle.cases.specs.Strips.{bone_strip, two_tracks}

-- The number of each refusal.
abbrev pub refusals : List (Refusal × Refusal)
refusals =
    (reader_refusal ReaderRefusal.TooLong, refusal 16 [])
    ∷ (reader_refusal ReaderRefusal.NotWhole, refusal 23 [])
    ∷ (reader_refusal ReaderRefusal.UnknownMap, refusal 24 [])
    ∷ (reader_refusal ReaderRefusal.NeverWritten, refusal 25 [])
    ∷ (reader_refusal ReaderRefusal.Absent, refusal 19 [])
    ∷ []

-- A key with all fields: the f32 1, 2 and 3; 4, 5, 6 and 7; four curves.
abbrev pub full_key : List ℕ
full_key =
    small 7 ++ 15 ∷ one ++ 0 ∷ 0 ∷ 0 ∷ 64 ∷ 0 ∷ 0 ∷ 64 ∷ 64 ∷ 0 ∷ 0 ∷ 128 ∷ 64 ∷ 0 ∷ 0 ∷ 160 ∷ 64 ∷ 0 ∷ 0 ∷ 192 ∷ 64 ∷ 0 ∷ 0 ∷ 224 ∷ 64 ∷ 1 ∷ 2 ∷ 3 ∷ 4 ∷ 5 ∷ 6 ∷ 7 ∷ 8 ∷ 9 ∷ 10 ∷ 11 ∷ 12 ∷ 13 ∷ 14 ∷ 15 ∷ 16 ∷ []

-- Two bones, of two keys and of one, and two morphs, of one key and of two; the f32 8 and 9 are weights.
abbrev pub two_and_two : List ℕ
two_and_two =
    (2 ∷ 0 ∷ 2 ∷ 0 ∷ [])
    ++ (2 ∷ 0 ∷ small 3 ++ 0 ∷ full_key)
    ++ (1 ∷ 0 ∷ small 4 ++ 8 ∷ 17 ∷ 18 ∷ 19 ∷ 20 ∷ [])
    ++ (1 ∷ 0 ∷ small 5 ++ 1 ∷ 0 ∷ 0 ∷ 0 ∷ 65 ∷ [])
    ++ (2 ∷ 0 ∷ small 6 ++ 0 ∷ small 2 ++ 1 ∷ 0 ∷ 0 ∷ 16 ∷ 65 ∷ [])

-- A bone's map that there is not, and a byte left over.
abbrev pub unknown_map : List ℕ
unknown_map = bone_strip (16 ∷ [])

abbrev pub left_over : List ℕ
left_over = bone_strip (0 ∷ 0 ∷ [])

abbrev pub counted : ℕ → ℕ → Answer StripCounts
counted bones morphs = answered (record { bones = bones; morphs = morphs })

abbrev pub counts_told : List (Answer StripCounts × Answer StripCounts)
counts_told =
    (counts edition1 count_width (zeros 4), counted 0 0)
    ∷ (counts edition1 count_width two_tracks, counted 2 0)
    ∷ (counts edition1 count_width two_and_two, counted 2 2)
    ∷ (counts edition1 count_width unknown_map, declined (refusal 24 []))
    ∷ []

-- Of tracks of both kinds, and of the number that is the count; 23 before 19.
abbrev pub key_counts_told : List (Answer ℕ × Answer ℕ)
key_counts_told =
    (key_count edition1 count_width bone 0 two_and_two, answered 2)
    ∷ (key_count edition1 count_width bone 1 two_and_two, answered 1)
    ∷ (key_count edition1 count_width morph 1 two_and_two, answered 2)
    ∷ (key_count edition1 count_width bone 2 two_and_two, declined (refusal 19 []))
    ∷ (key_count edition1 count_width morph 2 two_and_two, declined (refusal 19 []))
    ∷ (key_count edition1 count_width bone 1 left_over, declined (refusal 23 []))
    ∷ []

-- The f32 1 to 9 are 0x3f80_0000, 0x4000_0000, 0x4040_0000, 0x4080_0000, 0x40a0_0000, 0x40c0_0000, 0x40e0_0000, 0x4100_0000 and
-- 0x4110_0000.
abbrev pub bone_key : ℕ → ℕ → List ℕ → List ℕ → List (List ℕ) → Answer StripKey
bone_key frame map translation orientation curves =
    answered (StripKey.Bone (record { frame = frame; map = map; pose_bits = record { translation = translation; orientation = orientation }; curves = curves }))

abbrev pub morph_key : ℕ → ℕ → ℕ → Answer StripKey
morph_key frame map weight = answered (StripKey.Morph (record { frame = frame; map = map; weight_bits = weight }))

abbrev pub plain_curves : List (List ℕ)
plain_curves = replicate 4 (20 ∷ 20 ∷ 107 ∷ 107 ∷ [])

-- Keys that are plain and keys that are not; the place and the track behind the last; 24 before 19.
abbrev pub keys_told : List (Answer StripKey × Answer StripKey)
keys_told =
    (key edition1 count_width bone 0 0 two_and_two, bone_key 3 0 (zeros 3) (0 ∷ 0 ∷ 0 ∷ 0x3f80_0000 ∷ []) plain_curves)
    ∷ (
      key edition1 count_width bone 0 1 two_and_two,
      bone_key 7 15 (0x3f80_0000 ∷ 0x4000_0000 ∷ 0x4040_0000 ∷ []) (0x4080_0000 ∷ 0x40a0_0000 ∷ 0x40c0_0000 ∷ 0x40e0_0000 ∷ [])
          ((1 ∷ 2 ∷ 3 ∷ 4 ∷ []) ∷ (5 ∷ 6 ∷ 7 ∷ 8 ∷ []) ∷ (9 ∷ 10 ∷ 11 ∷ 12 ∷ []) ∷ (13 ∷ 14 ∷ 15 ∷ 16 ∷ []) ∷ []),
    )
    ∷ (key edition1 count_width morph 1 0 two_and_two, morph_key 6 0 0)
    ∷ (key edition1 count_width morph 1 1 two_and_two, morph_key 2 1 0x4110_0000)
    ∷ (key edition1 count_width morph 0 1 two_and_two, declined (refusal 19 []))
    ∷ (key edition1 count_width morph 2 0 two_and_two, declined (refusal 19 []))
    ∷ (key edition1 count_width bone 1 0 unknown_map, declined (refusal 24 []))
    ∷ []

-- The rows of the keys of `two_and_two`: kind, track and place, frame and map; translation, orientation and curves, or the weight.
abbrev pub first_row : List ℕ
first_row = 0 ∷ 0 ∷ 0 ∷ 3 ∷ 0 ∷ 0 ∷ 0 ∷ 0 ∷ 0 ∷ 0 ∷ 0 ∷ 0x3f80_0000 ∷ replicate 4 0x6b6b_1414

abbrev pub second_row : List ℕ
second_row =
    0 ∷ 0 ∷ 1 ∷ 7 ∷ 15 ∷ 0x3f80_0000 ∷ 0x4000_0000 ∷ 0x4040_0000 ∷ 0x4080_0000 ∷ 0x40a0_0000 ∷ 0x40c0_0000 ∷ 0x40e0_0000 ∷ 0x0403_0201 ∷ 0x0807_0605 ∷ 0x0c0b_0a09 ∷ 0x100f_0e0d ∷ []

abbrev pub third_row : List ℕ
third_row = 0 ∷ 1 ∷ 0 ∷ 4 ∷ 8 ∷ 0 ∷ 0 ∷ 0 ∷ 0 ∷ 0 ∷ 0 ∷ 0x3f80_0000 ∷ 0x6b6b_1414 ∷ 0x6b6b_1414 ∷ 0x6b6b_1414 ∷ 0x1413_1211 ∷ []

abbrev pub morph_rows : List ℕ
morph_rows =
    (1 ∷ 0 ∷ 0 ∷ 5 ∷ 1 ∷ 0x4100_0000 ∷ zeros 10)
    ++ (1 ∷ 1 ∷ 0 ∷ 6 ∷ 0 ∷ 0 ∷ zeros 10)
    ++ (1 ∷ 1 ∷ 1 ∷ 2 ∷ 1 ∷ 0x4110_0000 ∷ zeros 10)

abbrev pub left : Answer ℕ → List ℕ → KeysOutcome
left answer rows = record { answer = answer; rows = rows }

-- All rows; two rows, and the places behind them; the last key alone; rows behind the last, and no place; of a refused strip.
abbrev pub rows_left : List (KeysOutcome × KeysOutcome)
rows_left =
    (keys edition1 count_width 0 two_and_two (nines 96), left (answered 6) (first_row ++ second_row ++ third_row ++ morph_rows))
    ∷ (keys edition1 count_width 1 two_and_two (nines 40), left (answered 6) (second_row ++ third_row ++ nines 8))
    ∷ (keys edition1 count_width 5 two_and_two (nines 40), left (answered 6) (1 ∷ 1 ∷ 1 ∷ 2 ∷ 1 ∷ 0x4110_0000 ∷ zeros 10 ++ nines 24))
    ∷ (keys edition1 count_width 6 two_and_two (nines 16), left (answered 6) (nines 16))
    ∷ (keys edition1 count_width 0 two_and_two [], left (answered 6) [])
    ∷ (keys edition1 count_width 0 unknown_map (nines 16), left (declined (refusal 24 [])) (nines 16))
    ∷ []
