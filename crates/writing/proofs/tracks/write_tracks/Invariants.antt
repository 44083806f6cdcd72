-- The tracks below `number` are written, and end at `end`.
use Rattle.writing.proofs.Filling.{Filled}
use Rattle.writing.proofs.tracks.write_tracks.Given as goal

abbrev pub invariant-loop-number : goal.invariant-loop-number
invariant-loop-number l = Filled l.chains.indexed.records.section.now l.chains.indexed.records.block l.place l.initial.output l.number l.end l.output
