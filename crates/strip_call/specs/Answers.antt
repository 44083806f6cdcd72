-- What the strip call's answer says in document 01's terms, and what a run of it leaves.
use Rattle.std.specs.Prelude.{List, [], ◌∷◌, ◌≡◌, ℕ, pos, Result, Ok, Err}
use Rattle.layout.specs.{Refusals.{work_too_short, output_too_short}, Walk.{Refusal, refusal, Answer, answered, declined}}
use Rattle.binary.specs.Answers.{reading_refusal}
use Rattle.strip.specs.Call.{Built, Outcome}
use Rattle.blocks.specs.Fault.{fault_of}
use Rattle.strip_call.specs.declared.answer.{StripRefusal.{StripRefusal}, Built.{Built as BuiltAnswer}}

abbrev pub strip_refusal : StripRefusal → Refusal
strip_refusal (StripRefusal.Reading why) = reading_refusal why
strip_refusal (StripRefusal.Build fault) = fault_of fault
strip_refusal (StripRefusal.WorkTooShort need) = refusal work_too_short (pos need ∷ [])
strip_refusal (StripRefusal.OutputTooShort length) = refusal output_too_short (pos length ∷ [])

abbrev pub strip_read : Result BuiltAnswer StripRefusal → Answer Built
strip_read (Ok built) = answered (record { strip_length = built.strip_length; reached = built.reached; loose = built.loose })
strip_read (Err why) = declined (strip_refusal why)

-- What a run leaves is what the outcome says.
pub record LeavesOutcome (o : Outcome) (r : Result BuiltAnswer StripRefusal) (first second output : List ℕ) : Type 0 where
  pub answers : strip_read r ≡ o.answer
  pub leaves_first : first ≡ o.first
  pub leaves_second : second ≡ o.second
  pub leaves_output : output ≡ o.output
