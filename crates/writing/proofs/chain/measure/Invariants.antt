-- The keys of the records passed have `bytes` bytes; the others of the chain are ahead.
use Rattle.blocks.specs.Track.{number_of_track}
use Rattle.chains.specs.Positions.{positions_left}
use Rattle.writing.proofs.Measuring.{Measures}
use Rattle.writing.proofs.chain.measure.Given as goal

abbrev pub invariant-loop-p : goal.invariant-loop-p
invariant-loop-p l = Measures l.chain.indexed.records.section.now l.chain.indexed.records.block (number_of_track l.chain.track) l.yielded (positions_left l.p-iterator) l.bytes
