-- The strip call for C, and a run of it: what was lent, what was returned, and what the slices held afterwards.
use Rattle.std.specs.Prelude.{ℕ, List}
use Rattle.section.specs.Limits.{edition1}
use Rattle.strip.specs.{Strip.{count_width}, Runs.{Lent, outcome}}
use Rattle.strip_export.specs.Answers.{WritesOutcome}

-- The call's `ensures`, and what a run of it is taken to be. `before` is what the slice for values held.
abbrev pub StripCallForC : Lent → List ℕ → ℕ → List ℕ → List ℕ → List ℕ → List ℕ → Type 0
StripCallForC lent before returned first second output values = WritesOutcome (outcome edition1 count_width lent) before returned first second output values

pub record Run : Type 0 where
  pub lent : Lent
  pub before : List ℕ
  pub returned : ℕ
  pub first : List ℕ
  pub second : List ℕ
  pub output : List ℕ
  pub values : List ℕ
  pub call : StripCallForC lent before returned first second output values
