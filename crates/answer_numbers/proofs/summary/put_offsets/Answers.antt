-- Each group is written behind the one before it. Assumes nothing.
use mathlib.Core.Path.{refl}
use Rattle.answer_numbers.specs.Summary.{offsets, record_offsets}
use Rattle.answer_numbers.proofs.Putting.{behind}
use Rattle.answer_numbers.proofs.summary.put_offsets.Goals as goal

pub returns : goal.returns
unfolding offsets record_offsets
returns c =
    behind _ _ _ _ _ _ _
    c.put_record_offsets.ensures refl
    c.put_state_offsets.ensures
