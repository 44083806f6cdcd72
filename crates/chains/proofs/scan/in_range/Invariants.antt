-- The records below `p` are in range.
use Rattle.chains.proofs.Scanned.{Ranging}
use Rattle.chains.proofs.scan.in_range.Given as goal

abbrev pub invariant-loop-p : goal.invariant-loop-p
invariant-loop-p l = Ranging l.records.section.now l.records.block l.p
