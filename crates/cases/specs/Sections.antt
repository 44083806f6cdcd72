-- Document 01, "Sections by hand": the sections, byte by byte.
use Rattle.std.specs.Prelude.{ℕ, List, [], ◌∷◌, ◌++◌}
use Rattle.answer_cases.specs.Bytes.{zeros, small, minus_one}

-- The bone count stands at 260.
abbrev pub negative_bone_count : List ℕ
negative_bone_count = zeros 260 ++ minus_one ++ zeros 76

-- The f32 1, infinity and -0; 2^-12 and 2^-11, whose squares are 2^-24 and 2^-22.
abbrev pub one : List ℕ
one = 0 ∷ 0 ∷ 128 ∷ 63 ∷ []

abbrev pub infinity : List ℕ
infinity = 0 ∷ 0 ∷ 128 ∷ 127 ∷ []

abbrev pub minus_zero : List ℕ
minus_zero = 0 ∷ 0 ∷ 0 ∷ 128 ∷ []

abbrev pub two_to_minus_12 : List ℕ
two_to_minus_12 = 0 ∷ 0 ∷ 128 ∷ 57 ∷ []

abbrev pub two_to_minus_11 : List ℕ
two_to_minus_11 = 0 ∷ 0 ∷ 0 ∷ 58 ∷ []

-- A curve that is plain; one whose first byte is above 127, and how it stands in a clip.
abbrev pub plain_curve : List ℕ
plain_curve = 20 ∷ 20 ∷ 107 ∷ 107 ∷ []

abbrev pub high_curve : List ℕ
high_curve = 200 ∷ 20 ∷ 107 ∷ 127 ∷ []

abbrev pub clamped_curve : List ℕ
clamped_curve = 127 ∷ 20 ∷ 107 ∷ 127 ∷ []

abbrev pub plain_orientation : List ℕ
plain_orientation = zeros 12 ++ one

-- What a bone record has after its base: all 0 but its curves and its orientation's last part.
abbrev pub plain_bone : List ℕ → List ℕ
plain_bone w = plain_curve ++ plain_curve ++ plain_curve ++ plain_curve ++ zeros 24 ++ w ++ zeros 2

-- One nameless bone, its record at 308, with a next link and an orientation's last part; its additional records; all else 0.
abbrev pub bone : ℕ → List ℕ → List ℕ → List ℕ
bone link w records = zeros 260 ++ 1 ∷ zeros 47 ++ zeros 8 ++ small link ++ plain_bone w ++ records ++ zeros 60

abbrev pub one_bone : List ℕ
one_bone = bone 0 one (zeros 4)

abbrev pub without_orientation : List ℕ
without_orientation = bone 0 (zeros 4) (zeros 4)

-- An additional bone record: its index, frame, previous link and next link.
abbrev pub additional_bone : List ℕ → List ℕ → ℕ → ℕ → List ℕ
additional_bone index frame previous next = index ++ frame ++ small previous ++ small next ++ plain_bone one

-- "one record like it but of frame 1": the bone's link; the record's index, previous link and next link
abbrev pub linked : ℕ → ℕ → ℕ → ℕ → List ℕ
linked link index previous next = bone link one (small 1 ++ additional_bone (small index) (small 1) previous next)

-- Two nameless bones that are plain, the first with a link.
abbrev pub two_bones : ℕ → List ℕ
two_bones link = zeros 260 ++ 2 ∷ zeros 48 ++ zeros 8 ++ small link ++ plain_bone one ++ zeros 12 ++ plain_bone one ++ zeros 95

-- One nameless bone of frame 0 without additional records, by its curves and its pose; one nameless morph, by its weight.
abbrev pub posed_bone : List ℕ → List ℕ → List ℕ → List ℕ
posed_bone curves translation orientation = zeros 260 ++ 1 ∷ zeros 47 ++ zeros 12 ++ curves ++ translation ++ orientation ++ zeros 66

abbrev pub weighted_morph : List ℕ → List ℕ
weighted_morph weight = zeros 264 ++ 1 ∷ zeros 47 ++ zeros 12 ++ weight ++ zeros 34
