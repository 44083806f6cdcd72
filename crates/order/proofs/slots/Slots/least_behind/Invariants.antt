-- `least` is the answer for the places below `i`.
use Rattle.order.proofs.Neighbours.{Passed}
use Rattle.order.proofs.slots.Slots.least_behind.Given as goal

abbrev pub invariant-loop-i : goal.invariant-loop-i
invariant-loop-i l = Passed l.self.numbers.section.now l.self.numbers.field l.self.positions.now l.n l.least l.i
