-- The keys of the records passed are written and end at `written.end`; the others of the chain are ahead.
use Rattle.blocks.specs.Track.{number_of_track}
use Rattle.chains.specs.Positions.{positions_left}
use Rattle.writing.proofs.Filling.{Fills}
use Rattle.writing.proofs.chain.write_records.Given as goal

abbrev pub invariant-loop-p : goal.invariant-loop-p
invariant-loop-p l = Fills l.chain.indexed.records.section.now l.chain.indexed.records.block (number_of_track l.chain.track) l.place l.initial.output l.yielded (positions_left l.p-iterator) l.written.records l.written.end l.output
