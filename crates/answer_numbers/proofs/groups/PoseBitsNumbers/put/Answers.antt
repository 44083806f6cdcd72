-- The orientation is written behind the translation. Assumes nothing.
use mathlib.Core.Path.{refl}
use Rattle.answer_numbers.specs.Groups.{pose, vector}
use Rattle.answer_numbers.proofs.Putting.{behind}
use Rattle.answer_numbers.proofs.groups.PoseBitsNumbers.put.Goals as goal

pub returns : goal.returns
unfolding pose vector
returns c = behind _ _ _ _ _ _ _ c.put_at.ensures refl c.put_at-2.ensures
