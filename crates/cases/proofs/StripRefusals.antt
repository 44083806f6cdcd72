-- Every case of specs/StripRefusals, by computation. Assumes nothing.
use mathlib.Core.Path.{refl}
use Rattle.answer_cases.specs.Equal.{Equal}
use Rattle.cases.specs.StripRefusals.{strip_answers}

pub strip_answers_hold : Equal strip_answers
strip_answers_hold = (refl, (refl, (refl, (refl, (refl, (refl, (refl, (refl, (refl, (refl, (refl, (refl, (refl, (refl, (refl, (refl, tt))))))))))))))))
