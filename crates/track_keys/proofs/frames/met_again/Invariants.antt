-- The frames of the keys passed, with the initial record's, are different, and those of the records passed are marked in the sorted list.
use lib.ListN.{length}
use Rattle.blocks.specs.Track.{number_of_track}
use Rattle.track_keys.proofs.Again.{Again}
use Rattle.track_keys.proofs.frames.met_again.Given as goal

abbrev pub invariant-loop-i : goal.invariant-loop-i
invariant-loop-i l = Again l.chain.indexed.records.section.now l.chain.indexed.records.block (number_of_track l.chain.track) l.initial.list l.list (length l.yielded)
