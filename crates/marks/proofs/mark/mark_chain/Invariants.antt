-- `n` records are marked; marking those that are left of the chain gives what marking all of it gives.
use Rattle.blocks.specs.Track.{number_of_track}
use Rattle.chains.specs.Positions.{positions_left}
use Rattle.marks.proofs.Following.{Following}
use Rattle.marks.proofs.mark.mark_chain.Given as goal

abbrev pub invariant-loop-p : goal.invariant-loop-p
invariant-loop-p l = Following l.chain.indexed.records.section.now l.chain.indexed.records.block (number_of_track l.chain.track) l.initial.marks l.marks (positions_left l.p-iterator) l.n
