-- Document 01, modules 2 and 7 (FORMAT, Calls by number): the summary of a model section, as include/limdroven.h lists its numbers.
use Rattle.std.specs.Prelude.{List, [], ◌∷◌}
use Rattle.section.specs.{Limits.{edition1}, Summary.{model_summary}}
use Rattle.answer_numbers.specs.Summary as number
use Rattle.answer_cases.specs.Sections.{model_section}
use Rattle.answer_cases.specs.Table.{Case, case, told, bits_of_minus_one}

-- The model's number, where the section begins and ends, where its path stands, and its counts; draw order, transform order, selected bone
-- and morphs; scroll, and how many records of each kind, initial and additional; last frame, visible, blend, edge width and self shadow.
-- Then where the blocks of bones, morphs and models stand, and the states.
abbrev pub summaries : List Case
summaries =
    case
    (told number.model_summary (model_summary edition1 model_section 0))
    (0
    ∷ 7 ∷ 0 ∷ 808 ∷ 6 ∷ 2 ∷ 3 ∷ 2 ∷ 1
    ∷ 3 ∷ 5 ∷ bits_of_minus_one ∷ 11 ∷ 12 ∷ 13 ∷ 14
    ∷ 21 ∷ 2 ∷ 2 ∷ 3 ∷ 1 ∷ 1 ∷ 1
    ∷ 22 ∷ 1 ∷ 1 ∷ 8 ∷ 0
    ∷ 333 ∷ 449 ∷ 453 ∷ 577
    ∷ 577 ∷ 628 ∷ 632 ∷ 653
    ∷ 653 ∷ 677 ∷ 681 ∷ 709
    ∷ 709 ∷ 771 ∷ 783 ∷ 785 ∷ [])
    ∷ []
