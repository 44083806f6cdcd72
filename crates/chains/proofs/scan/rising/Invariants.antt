-- The indices of the records below `p` rise from the kind's count on, and are below `least`.
use Rattle.chains.proofs.RisingIndices.{Rising}
use Rattle.chains.proofs.scan.rising.Given as goal

abbrev pub invariant-loop-p : goal.invariant-loop-p
invariant-loop-p l = Rising l.records.section.now l.records.block l.p l.least
