-- The strip call (FORMAT, The strip call), and a run of it: what was lent, what was answered, and what the slices held afterwards.
use Rattle.std.specs.Prelude.{ℕ, List, ◌≡◌, take, Result, Ok}
use Rattle.section.specs.Limits.{edition1}
use Rattle.strip.specs.{Strip.{count_width}, Runs.{Lent, outcome, Within}}
use Rattle.strip_call.specs.Answers.{LeavesOutcome}
use Rattle.strip_call.specs.declared.answer.{Built.{Built}, StripRefusal.{StripRefusal}}

-- The call's `ensures`, and what demand 3 takes a run to be.
abbrev pub StripCall : Lent → Result Built StripRefusal → List ℕ → List ℕ → List ℕ → Type 0
StripCall lent answer first second output = LeavesOutcome (outcome edition1 count_width lent) answer first second output

pub record Run : Type 0 where
  pub lent : Lent
  pub answer : Result Built StripRefusal
  pub first : List ℕ
  pub second : List ℕ
  pub output : List ℕ
  pub call : StripCall lent answer first second output

abbrev pub ReadWithin : Run → Type 0
ReadWithin x = Within edition1 count_width x.lent

-- "Accepted: the strip call gives no refusal; the strip is then the output up to the length answered."
pub record Accepted (x : Run) : Type 0 where
  pub built : Built
  pub answers : x.answer ≡ Ok built

abbrev pub strip_out : (x : Run) → Accepted x → List ℕ
strip_out x a = take a.built.strip_length x.output
