-- Of the first `p` records so many are disconnected and so many loose.
use Rattle.blocks.specs.Kind.{kind_of}
use Rattle.blocks.specs.Block.{links}
use Rattle.marks.proofs.Unreached.{Counted}
use Rattle.marks.proofs.counts.count.Given as goal

abbrev pub invariant-loop-p : goal.invariant-loop-p
invariant-loop-p l = Counted (kind_of l.records.block.kind) (links l.records.section.now l.records.block) l.disconnected l.loose l.p
