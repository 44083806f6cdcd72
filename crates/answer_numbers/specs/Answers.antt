-- What a call returns and writes of an answer: 0 and the answer's numbers, or the refusal's number and its values.
use Rattle.std.specs.{Prelude.{ℕ, ◌<◌, List, map, ◌≡◌, length}, Int.{w64}}
use Rattle.std.proofs.Common.{of_z}
use Rattle.layout.specs.Walk.{Refusal, Answer, answered, declined, Answers}
use Rattle.answer_numbers.specs.Put.{put}

-- A refusal's values, which are offsets here, each as its 64-bit pattern.
abbrev pub values : Refusal → List ℕ
values why = map (of_z w64) why.values

abbrev pub status : {A : Type 0} → Answer A → ℕ
status (answered x) = 0
status (declined why) = why.number

abbrev pub written : {A : Type 0} → (A → List ℕ) → Answer A → List ℕ
written numbers (answered x) = numbers x
written numbers (declined why) = values why

-- What is said of a refusal: the number returned, which is not 0, and the slice afterwards.
pub record Refuses (why : Refusal) (before : List ℕ) (returned : ℕ) (afterwards : List ℕ) : Type 0 where
  pub returns : returned ≡ why.number
  pub some : 0 < returned
  pub writes : afterwards ≡ put 0 (values why) before

-- What a call says of an answer: the number it returns, which is 0 only of an answer, and its slice afterwards.
pub record WritesAnswer {A : Type 0} (numbers : A → List ℕ) (answer : Answer A) (before : List ℕ) (returned : ℕ) (afterwards : List ℕ) : Type 0 where
  pub returns : returned ≡ status answer
  pub zero : returned ≡ 0 → Answers answer
  pub writes : afterwards ≡ put 0 (written numbers answer) before

-- What a call hands back of a part of the section: its length, and its bytes in the slice afterwards.
abbrev pub WritesPart : List ℕ → List ℕ → ℕ → List ℕ → Type 0
WritesPart part before returned afterwards = (returned ≡ length part) × (afterwards ≡ put 0 part before)
