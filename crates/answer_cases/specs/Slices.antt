-- The calls for C (exports, include/limdroven.h): what a call writes into a lent slice, "from place 0 on as far as it reaches", and what it
-- returns.
use Rattle.std.specs.Prelude.{ℕ, List, [], ◌∷◌, pos, Some, None}
use Rattle.layout.specs.Walk.{refusal, answered, declined}
use Rattle.answer_numbers.specs.{Put.{put}, Answers.{WritesAnswer, WritesPart}, Scalars.{reference_index}}
use Rattle.answer_cases.specs.Table.{Case, case, told, no_index}

-- Two numbers in a slice of four and of one; the number of a reference, and none.
abbrev pub written : List Case
written =
    case (put 1 (7 ∷ 8 ∷ []) (9 ∷ 9 ∷ 9 ∷ 9 ∷ [])) (9 ∷ 7 ∷ 8 ∷ 9 ∷ [])
    ∷ case (put 0 (7 ∷ 8 ∷ []) (9 ∷ [])) (7 ∷ [])
    ∷ case (told reference_index (answered (Some 7))) (0 ∷ 7 ∷ [])
    ∷ case (told reference_index (answered None)) (0 ∷ no_index ∷ [])
    ∷ []

-- An answer of two numbers and a refusal with a value, in a slice of three; a part of three bytes in a slice of two.
pub record Runs : Type 0 where
  pub answer : WritesAnswer (λ n. n ∷ n ∷ []) (answered 7) (9 ∷ 9 ∷ 9 ∷ []) 0 (7 ∷ 7 ∷ 9 ∷ [])
  pub refused : WritesAnswer {A = ℕ} (λ n. n ∷ n ∷ []) (declined (refusal 1 (pos 340 ∷ []))) (9 ∷ 9 ∷ 9 ∷ []) 1 (340 ∷ 9 ∷ 9 ∷ [])
  pub part : WritesPart (7 ∷ 8 ∷ 6 ∷ []) (9 ∷ 9 ∷ []) 3 (7 ∷ 8 ∷ [])
