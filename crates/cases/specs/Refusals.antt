-- Document 01, "Turned down, and by whose doing" (FORMAT, Refusals): a section for each refusal of a build that no marked case of "Sections
-- by hand" meets, so that each is met by one but 9, which none meets.
use Rattle.std.specs.Prelude.{ℕ, List, [], ◌∷◌, ◌++◌, pos, negsuc}
use Rattle.answer_cases.specs.Bytes.{zeros, small, minus_one}
use Rattle.cases.specs.Sections.{one, infinity, bone, additional_bone, linked, posed_bone, weighted_morph}
use Rattle.cases.specs.Case.{Case, gives_refusal}

-- The bone linked to 1, and a record 1 of this frame behind it.
abbrev pub of_frame : List ℕ → List ℕ
of_frame frame = bone 1 one (small 1 ++ additional_bone (small 1) frame 0 0)

-- One nameless bone whose translation begins with infinity; one nameless morph of infinite weight.
abbrev pub infinite_translation : List ℕ
infinite_translation = posed_bone (zeros 16) (infinity ++ zeros 8) (zeros 12 ++ one)

abbrev pub infinite_weight : List ℕ
infinite_weight = weighted_morph infinity

abbrev pub refusals : List Case
refusals =
    gives_refusal (bone 1 one (small 1 ++ additional_bone minus_one (small 1) 0 0)) 3 (pos 0 ∷ negsuc 0 ∷ [])
    ∷ gives_refusal (bone 1 one (small 2 ++ additional_bone (small 1) (small 1) 0 0 ++ additional_bone (small 1) (small 2) 0 0)) 5 (pos 0 ∷ pos 1 ∷ [])
    ∷ gives_refusal (linked 2 1 0 0) 6 (pos 0 ∷ pos 0 ∷ pos 2 ∷ [])
    ∷ gives_refusal (of_frame minus_one) 10 (pos 0 ∷ pos 0 ∷ negsuc 0 ∷ [])
    ∷ gives_refusal (of_frame (small 0)) 11 (pos 0 ∷ pos 0 ∷ pos 0 ∷ [])
    ∷ gives_refusal infinite_translation 12 (pos 0 ∷ pos 0 ∷ [])
    ∷ gives_refusal infinite_weight 14 (pos 0 ∷ pos 0 ∷ [])
    ∷ []
