-- What is left to read from the position reached comes to the same as all from the first one. Assumes nothing.
use Rattle.binary.proofs.NumbersRead.{passed-more}
use Rattle.binary.proofs.groups.read_u32s_le.Goals as goal

pub loop-i-preserved : goal.loop-i-preserved
loop-i-preserved g c = passed-more _ _ _ _ _ _ c.loop-i.invariant _ _ c.loop-i-test.true c.in_ok-values.ensures
