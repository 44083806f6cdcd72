-- The first `i` numbers stand in `values`, and the others are read from `next` on.
use Rattle.binary.proofs.NumbersRead.{Passed}
use Rattle.binary.proofs.groups.read_u32s_le.Given as goal

abbrev pub invariant-loop-i : goal.invariant-loop-i
invariant-loop-i g l = Passed g.row.N l.s l.at l.i l.values l.next
