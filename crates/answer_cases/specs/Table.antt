-- What a case of the tables here is.
use Rattle.std.specs.Prelude.{ℕ, List, ◌∷◌}
use Rattle.layout.specs.Walk.{Answer}
use Rattle.answer_numbers.specs.Answers.{status, written}

-- What a definition gives, and the numbers that it is to give.
abbrev pub Case : Type 0
Case = List ℕ × List ℕ

abbrev pub case : List ℕ → List ℕ → Case
case given is = (given, is)

-- What a call for C returns, and what it writes: 0 and the answer's numbers, or the refusal's number and its values.
abbrev pub told : {A : Type 0} → (A → List ℕ) → Answer A → List ℕ
told numbers a = status a ∷ written numbers a

-- An absent index as 2^64 - 1; -1 as its 32 bits.
abbrev pub no_index : ℕ
no_index = 18446744073709551615

abbrev pub bits_of_minus_one : ℕ
bits_of_minus_one = 4294967295
