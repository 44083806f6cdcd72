-- What is written and returned is as the cases say, by computation. Assumes nothing.
use Rattle.std.proofs.Common.{refl, arith}
use Rattle.answer_numbers.specs.Put.{put}
use Rattle.answer_cases.specs.{Equal.{Equal}, Slices.{written, Runs}}

pub slices : Equal written × Runs
unfolding put
slices = (
  (refl, (refl, (refl, (refl, tt)))),
  record {
    answer = record { returns = refl; zero = λ none. record { value = 7; is = refl }; writes = refl };
    refused = record { returns = refl; zero = λ none. grind (arith, none); writes = refl };
    part = (refl, refl);
  },
)
