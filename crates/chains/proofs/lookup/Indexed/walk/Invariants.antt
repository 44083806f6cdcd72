-- The first `n` records of the chain stand in the list, linked from the initial record on to `link`; they are no more than all records.
use Prim.Native.Nat.{◌-◌}
use Rattle.blocks.specs.Track.{number_of_track}
use Rattle.chains.proofs.Going.{Going}
use Rattle.chains.proofs.lookup.Indexed.walk.Given as goal

abbrev pub invariant-loop-link : goal.invariant-loop-link
invariant-loop-link l = Going l.self.records.section.now l.self.records.block (number_of_track l.track) l.initial.list l.list l.link l.expected l.n

abbrev pub decreases-loop-link : goal.decreases-loop-link
decreases-loop-link l = l.self.records.block.records.count - l.n
