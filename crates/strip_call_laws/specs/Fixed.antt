-- Document 01, "Contracts for this work": "Nothing is left open": what the strip call answers is fixed by its contract. The proof is in
-- proofs/Fixed.antt.
use Rattle.std.specs.Prelude.{◌≡◌}
use Rattle.strip_call.specs.{Answers.{strip_read}, Run.{Run}}

pub record Fixed : Type 0 where
  -- Two answers that read the same in document 01's terms are the same: no two cases, kinds, tracks or values of a refusal do.
  pub answers : (x y : Run) → strip_read x.answer ≡ strip_read y.answer → x.answer ≡ y.answer
  -- Two runs that are lent the same answer the same and leave the same.
  pub runs : (x y : Run) → x.lent ≡ y.lent → (x.answer ≡ y.answer) × (x.first ≡ y.first) × (x.second ≡ y.second) × (x.output ≡ y.output)
