-- Document 02, T-02 (FORMAT, Strips read back): strips, and what reading each gives.
use Rattle.std.specs.Prelude.{ℕ, List, [], ◌∷◌, ◌++◌, ◌≡◌}
use Rattle.layout.specs.Walk.{Answer, answered, declined, refusal}
use Rattle.section.specs.declared.limits.Limits.{Limits}
use Rattle.strip.specs.Strip.{count_width, FieldsKey, Contents}
use Rattle.strip_reader.specs.Read.{read_strip}
use Rattle.answer_cases.specs.Bytes.{zeros, small}
use Rattle.cases.specs.Sections.{one, infinity, minus_zero, two_to_minus_12, two_to_minus_11, plain_curve, clamped_curve, plain_orientation}
use Rattle.cases.specs.Strips.{two_tracks, bone_strip, morph_strip}

pub record StripCase : Type 0 where
  pub strip : List ℕ
  pub gives : Answer Contents

abbrev pub HoldStrips : Limits → List StripCase → Type 0
HoldStrips limits [] = Unit {0}
HoldStrips limits (c ∷ cs) = (read_strip limits count_width c.strip ≡ c.gives) × HoldStrips limits cs

abbrev pub holds : List ℕ → List (List FieldsKey) → List (List FieldsKey) → StripCase
holds strip bones morphs = record { strip = strip; gives = answered (record { bones = bones; morphs = morphs }) }

abbrev pub refused : List ℕ → ℕ → StripCase
refused strip number = record { strip = strip; gives = declined (refusal number []) }

-- Both counts, each below 256, and the tracks; the one morph's track, its count below 256, and its keys.
abbrev pub tracks : ℕ → ℕ → List ℕ → List ℕ
tracks bones morphs others = bones ∷ 0 ∷ morphs ∷ 0 ∷ others

abbrev pub one_morph : ℕ → List ℕ → List ℕ
one_morph count keys = tracks 0 1 (count ∷ 0 ∷ keys)

-- A track of one key of frame 0.
abbrev pub of_key : List (List ℕ) → List FieldsKey
of_key fields = record { frame = 0; body = fields } ∷ []

abbrev pub plain_curves : List ℕ
plain_curves = plain_curve ++ plain_curve ++ plain_curve

-- The fields of a bone's key of which none is present.
abbrev pub plain_fields : List (List ℕ)
plain_fields = zeros 12 ∷ plain_orientation ∷ plain_curves ∷ plain_curve ∷ []

abbrev pub plain_key : List FieldsKey
plain_key = of_key plain_fields

-- 2^31 as a frame; curves whose first byte is 127 or 128; a curve like no other here.
abbrev pub two_to_31 : List ℕ
two_to_31 = 0 ∷ 0 ∷ 0 ∷ 128 ∷ []

abbrev pub curves_of_127 : List ℕ
curves_of_127 = clamped_curve ++ plain_curve ++ plain_curve

abbrev pub curves_of_128 : List ℕ
curves_of_128 = 128 ∷ 20 ∷ 107 ∷ 127 ∷ plain_curve ++ plain_curve

abbrev pub rotation : List ℕ
rotation = 1 ∷ 2 ∷ 3 ∷ 4 ∷ []

-- "Refusals are met in byte order, 25 at the end of the key concerned": no keys, before a byte left over; a key count cut; in a key of
-- frame 2^31 an unknown map, or none; a frame met again, then in the later key an unknown map, or none; an unknown map before keys not
-- there.
abbrev pub orders : List StripCase
orders =
    refused (tracks 1 0 (0 ∷ 0 ∷ 119 ∷ [])) 25
    ∷ refused (tracks 1 0 (0 ∷ [])) 23
    ∷ refused (one_morph 1 (two_to_31 ++ 2 ∷ [])) 24
    ∷ refused (one_morph 1 two_to_31) 23
    ∷ refused (one_morph 2 (small 5 ++ 0 ∷ small 5 ++ 0 ∷ [])) 25
    ∷ refused (one_morph 2 (small 5 ++ 0 ∷ small 5 ++ 2 ∷ [])) 24
    ∷ refused (one_morph 2 (small 5 ++ 0 ∷ small 5)) 23
    ∷ refused (tracks 0 1 (255 ∷ 255 ∷ small 0 ++ 2 ∷ [])) 24
    ∷ []

-- No tracks; all groups of a bone's key, and none; a curve byte of 127; a frame in two tracks; a morph's weight, and a frame below the one
-- before. Then what the builder never writes: a plain group, also with -0; a curve byte of 128; a squared length of 2^-23; an infinite
-- weight; a frame above 2^31 - 1; no keys. Last 24 for both kinds, and 23.
abbrev pub reads : List StripCase
reads =
    holds (zeros 4) [] []
    ∷ holds
    (bone_strip (15 ∷ one ++ zeros 8 ++ two_to_minus_11 ++ zeros 12 ++ curves_of_127 ++ rotation))
    (of_key ((one ++ zeros 8) ∷ (two_to_minus_11 ++ zeros 12) ∷ curves_of_127 ∷ rotation ∷ []) ∷ [])
    []
    ∷ holds (bone_strip (0 ∷ [])) (plain_key ∷ []) []
    ∷ holds (bone_strip (4 ∷ curves_of_127)) (of_key (zeros 12 ∷ plain_orientation ∷ curves_of_127 ∷ plain_curve ∷ []) ∷ []) []
    ∷ holds two_tracks (plain_key ∷ plain_key ∷ []) []
    ∷ holds
    (one_morph 2 (small 5 ++ 1 ∷ one ++ small 0 ++ 0 ∷ []))
    []
    ((record { frame = 5; body = one ∷ [] } ∷ of_key (zeros 4 ∷ [])) ∷ [])
    ∷ refused (bone_strip (4 ∷ plain_curves)) 25
    ∷ refused (bone_strip (1 ∷ minus_zero ++ zeros 8)) 25
    ∷ refused (bone_strip (4 ∷ curves_of_128)) 25
    ∷ refused (bone_strip (2 ∷ two_to_minus_12 ++ two_to_minus_12 ++ zeros 8)) 25
    ∷ refused (morph_strip (1 ∷ infinity)) 25
    ∷ refused (one_morph 1 (two_to_31 ++ 0 ∷ [])) 25
    ∷ refused (one_morph 0 []) 25
    ∷ refused (bone_strip (16 ∷ [])) 24
    ∷ refused (morph_strip (2 ∷ [])) 24
    ∷ refused (bone_strip (0 ∷ 0 ∷ [])) 23
    ∷ []

-- A track of two plain keys, and its keys by their fields.
abbrev pub two_keys : List ℕ
two_keys = 2 ∷ 0 ∷ small 0 ++ 0 ∷ small 1 ++ 0 ∷ []

abbrev pub two_of : List (List ℕ) → List FieldsKey
two_of fields = record { frame = 0; body = fields } ∷ record { frame = 1; body = fields } ∷ []

-- With limits of 28 bytes and 1 additional key in the place of 16,777,215, for which proofs/TooLong stands, and 65,534: as many bytes, and
-- one additional key of each kind; two of one kind, in two tracks and in one; a byte more, tested before all else. That of tracks plays no
-- part.
abbrev pub small_limits : Limits
small_limits = record { bytes = 28; tracks = 0; additional = 1 }

abbrev pub limited : List StripCase
limited =
    holds (tracks 1 1 (two_keys ++ two_keys)) (two_of plain_fields ∷ []) (two_of (zeros 4 ∷ []) ∷ [])
    ∷ refused (tracks 0 2 (two_keys ++ two_keys)) 25
    ∷ refused (one_morph 3 (small 0 ++ 0 ∷ small 1 ++ 0 ∷ small 2 ++ 0 ∷ [])) 25
    ∷ refused (tracks 0 2 (two_keys ++ two_keys) ++ 0 ∷ []) 16
    ∷ []
