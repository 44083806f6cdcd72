-- What the strip call for C returns and writes of an outcome.
use Rattle.std.specs.Prelude.{ℕ, List, [], ◌∷◌, map, ◌≡◌}
use Rattle.layout.specs.Walk.{Refusal, Answer, answered, declined, Answers}
use Rattle.strip.specs.Call.{Built, Outcome}
use Rattle.answer_numbers.specs.{Answers.{status}, Put.{put}, Scalars.{pattern}}

-- A negative i32 as its 32-bit pattern, every other value as it is.
abbrev pub values : Refusal → List ℕ
values why = map pattern why.values

abbrev pub numbers : Built → List ℕ
numbers b = b.strip_length ∷ b.reached ∷ b.loose ∷ []

abbrev pub written : Answer Built → List ℕ
written (answered b) = numbers b
written (declined why) = values why

-- What is said of a refusal: the number returned, and the values afterwards.
abbrev pub Refuses : Refusal → List ℕ → ℕ → List ℕ → Type 0
Refuses why before returned afterwards = (returned ≡ why.number) × (afterwards ≡ put 0 (values why) before)

-- The number returned, which is 0 only where the section is accepted, and every slice afterwards.
pub record WritesOutcome (o : Outcome) (before : List ℕ) (returned : ℕ) (first second output afterwards : List ℕ) : Type 0 where
  pub returns : returned ≡ status o.answer
  pub zero : returned ≡ 0 → Answers o.answer
  pub leaves_first : first ≡ o.first
  pub leaves_second : second ≡ o.second
  pub leaves_output : output ≡ o.output
  pub writes : afterwards ≡ put 0 (written o.answer) before
