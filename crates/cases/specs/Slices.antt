-- Document 01, module 6 (FORMAT, The strip call): what the strip call answers and what it leaves in slices of given lengths.
use Rattle.std.specs.Prelude.{ℕ, List, [], ◌∷◌, ◌++◌, pos, ℤ}
use Rattle.layout.specs.Walk.{answered, declined, refusal}
use Rattle.section.specs.Limits.{edition1}
use Rattle.strip.specs.{Strip.{count_width}, Call.{Outcome, strip_call}}
use Rattle.cases.specs.Case.{nines}
use Rattle.answer_cases.specs.Bytes.{zeros, small}
use Rattle.cases.specs.Sections.{linked}

-- The slices that are lent, so long each, hold nines.
abbrev pub called : List ℕ → ℕ → ℕ → ℕ → Outcome
called section first second output = strip_call edition1 count_width section 0 (nines first) (nines second) (nines output)

-- One nameless bone and a record of index 1 and frame 1 behind it; one nameless morph with this link, and a record of index 1 and frame 1
-- with this next link behind it.
abbrev pub two_keys : List ℕ
two_keys = linked 1 1 0 0

abbrev pub linked_morph : ℕ → ℕ → List ℕ
linked_morph link next =
    zeros 264 ++ small 1 ++ zeros 52 ++ small link ++ zeros 5 ++ small 1 ++ small 1 ++ small 1 ++ zeros 4 ++ small next ++ zeros 34

-- A refusal, and the work slices afterwards; the output is as it was.
abbrev pub refused : List ℕ → ℕ → ℕ → ℕ → ℕ → List ℤ → List ℕ → List ℕ → Outcome × Outcome
refused section first second output number values first_left second_left = (
  called section first second output,
  record { answer = declined (refusal number values); first = first_left; second = second_left; output = nines output },
)

-- 17 with the need, of bones and of morphs, and nothing written; 18 with the strip's length, the need's places 0; a refusal of the build
-- before 18; morphs not reached, of kind 1; a strip, with what lies behind it and behind the need left.
abbrev pub slices : List (Outcome × Outcome)
slices =
    refused two_keys 0 2 20 17 (pos 1 ∷ []) [] (nines 2)
    ∷ refused two_keys 2 0 20 17 (pos 1 ∷ []) (nines 2) []
    ∷ refused (linked_morph 1 0) 0 0 20 17 (pos 1 ∷ []) [] []
    ∷ refused two_keys 2 2 15 18 (pos 16 ∷ []) (0 ∷ 9 ∷ []) (0 ∷ 9 ∷ [])
    ∷ refused (linked 1 0 0 0) 2 2 0 4 (pos 0 ∷ pos 0 ∷ pos 1 ∷ []) (0 ∷ 9 ∷ []) (0 ∷ 9 ∷ [])
    ∷ refused (linked_morph 0 7) 1 1 20 15 (pos 1 ∷ pos 1 ∷ []) (0 ∷ []) (0 ∷ [])
    ∷ (
      called (linked_morph 1 0) 2 2 18,
      record {
        answer = answered (record { strip_length = 16; reached = 1; loose = 0 });
        first = 0 ∷ 9 ∷ [];
        second = 1 ∷ 9 ∷ [];
        output = 0 ∷ 0 ∷ 1 ∷ 0 ∷ 2 ∷ 0 ∷ 0 ∷ 0 ∷ 0 ∷ 0 ∷ 0 ∷ 1 ∷ 0 ∷ 0 ∷ 0 ∷ 0 ∷ 9 ∷ 9 ∷ [];
      },
    )
    ∷ []
