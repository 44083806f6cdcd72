-- The first item and the runs passed are whole and end at `at`; the place is sought in the others.
use Rattle.binary.proofs.Passing.{Whole}
use Rattle.binary.proofs.blocks.place_in_record.Given as goal

abbrev pub invariant-loop-run : goal.invariant-loop-run
invariant-loop-run l = Whole l.items l.room l.run-index l.at
