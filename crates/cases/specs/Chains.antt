-- Document 01, "Mistakes to rule out" (FORMAT, The build): what the marked cases do not show of them, and the first work slice where the
-- order of indices is not that of the file.
use Rattle.std.specs.Prelude.{ℕ, List, [], ◌∷◌, ◌++◌, pos}
use Rattle.answer_cases.specs.Bytes.{zeros, small}
use Rattle.cases.specs.Sections.{one, plain_bone, bone, additional_bone, two_bones}
use Rattle.cases.specs.Strips.{two_tracks}
use Rattle.cases.specs.Case.{Case, Given, Question, gives_strip, gives_refusal}

-- A loose record whose orientation is all 0; two records of which the second comes first in the chain.
abbrev pub loose_pose : List ℕ
loose_pose = bone 0 one (small 1 ++ small 1 ++ small 1 ++ zeros 8 ++ plain_bone (zeros 4))

abbrev pub later_first : List ℕ
later_first = bone 1 one (small 2 ++ additional_bone (small 2) (small 2) 1 0 ++ additional_bone (small 1) (small 1) 0 2)

-- "taking a nonzero link to a track number as an end (it is 6)", "one set of frames for all tracks", "checking poses of loose records"
abbrev pub chains : List Case
chains =
    gives_refusal (two_bones 1) 6 (pos 0 ∷ pos 0 ∷ pos 1 ∷ [])
    ∷ gives_strip (two_bones 0) two_tracks
    ∷ record {
      asked = Question.strip;
      section = loose_pose;
      gives = Given.accepts (1 ∷ 0 ∷ 0 ∷ 0 ∷ 1 ∷ 0 ∷ 0 ∷ 0 ∷ 0 ∷ 0 ∷ 0 ∷ []) 0 1 (0 ∷ 9 ∷ []) (0 ∷ 9 ∷ []);
    }
    ∷ record {
      asked = Question.strip;
      section = later_first;
      gives = Given.accepts (1 ∷ 0 ∷ 0 ∷ 0 ∷ 3 ∷ 0 ∷ 0 ∷ 0 ∷ 0 ∷ 0 ∷ 0 ∷ 1 ∷ 0 ∷ 0 ∷ 0 ∷ 0 ∷ 2 ∷ 0 ∷ 0 ∷ 0 ∷ 0 ∷ []) 2 0 (1 ∷ 0 ∷ []) (1 ∷ 1 ∷ []);
    }
    ∷ []
