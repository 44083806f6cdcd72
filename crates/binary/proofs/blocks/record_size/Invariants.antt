-- The first item and the runs passed come to `size`.
use Rattle.binary.proofs.Passing.{Sized}
use Rattle.binary.proofs.blocks.record_size.Given as goal

abbrev pub invariant-loop-run : goal.invariant-loop-run
invariant-loop-run l = Sized l.items l.run-index l.size
