-- Document 01, "The strip", and of a pose "Turned down" and "Modules" (FORMAT, The strip and The build): the bytes of a key whose curves,
-- translation, orientation or weight stand, and the edges of what is asked of a pose.
use Rattle.std.specs.Prelude.{ℕ, List, [], ◌∷◌, ◌++◌, pos}
use Rattle.answer_cases.specs.Bytes.{zeros}
use Rattle.cases.specs.Sections.{one, infinity, minus_zero, two_to_minus_12, two_to_minus_11, plain_curve, high_curve, clamped_curve, plain_orientation, posed_bone, weighted_morph}
use Rattle.cases.specs.Strips.{bone_strip, morph_strip}
use Rattle.cases.specs.Case.{Case, gives_strip, gives_refusal}

abbrev pub four_plain_curves : List ℕ
four_plain_curves = plain_curve ++ plain_curve ++ plain_curve ++ plain_curve

-- A key whose fields are plain, -0 as plain as 0; one for each bit of the map; a pose refused, "The limit is 2^-23, equality refused", and
-- 12 before 13.
abbrev pub key_cases : List Case
key_cases =
    gives_strip (posed_bone four_plain_curves (minus_zero ++ zeros 8) plain_orientation) (bone_strip (0 ∷ []))
    ∷ gives_strip (posed_bone four_plain_curves (one ++ zeros 8) plain_orientation) (bone_strip (1 ∷ one ++ zeros 8))
    ∷ gives_strip (posed_bone four_plain_curves (zeros 12) (two_to_minus_11 ++ zeros 12)) (bone_strip (2 ∷ two_to_minus_11 ++ zeros 12))
    ∷ gives_strip (posed_bone (high_curve ++ plain_curve ++ plain_curve ++ plain_curve) (zeros 12) plain_orientation) (bone_strip (4 ∷ clamped_curve ++ plain_curve ++ plain_curve))
    ∷ gives_strip (posed_bone (plain_curve ++ plain_curve ++ plain_curve ++ high_curve) (zeros 12) plain_orientation) (bone_strip (8 ∷ clamped_curve))
    ∷ gives_strip (weighted_morph one) (morph_strip (1 ∷ one))
    ∷ gives_refusal (posed_bone four_plain_curves (zeros 12) (two_to_minus_12 ++ two_to_minus_12 ++ zeros 8)) 13 (pos 0 ∷ pos 0 ∷ [])
    ∷ gives_refusal (posed_bone four_plain_curves (infinity ++ zeros 8) (zeros 16)) 12 (pos 0 ∷ pos 0 ∷ [])
    ∷ []
