-- The tracks below `number` are marked, and `reached` is how many records their chains have together.
use Rattle.marks.proofs.Passing.{Passing}
use Rattle.marks.proofs.mark.mark_tracks.Given as goal

abbrev pub invariant-loop-number : goal.invariant-loop-number
invariant-loop-number l = Passing l.chains.indexed.records.section.now l.chains.indexed.records.block l.marks l.reached l.number
