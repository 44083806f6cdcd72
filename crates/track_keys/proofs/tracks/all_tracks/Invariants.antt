-- Outer loop: the tracks below `number` meet nothing. Inner loop: what the track meets is what its records from `i` on meet.
use Rattle.blocks.specs.Track.{number_of_track}
use Rattle.track_keys.proofs.Asking.{Tracking, Asking}
use Rattle.track_keys.proofs.tracks.all_tracks.Given as goal

abbrev pub invariant-tracks : goal.invariant-tracks
invariant-tracks l = Tracking l.indexed.records.section.now l.indexed.records.block l.fn.list l.list l.met l.number

abbrev pub invariant-loop-i : goal.invariant-loop-i
invariant-loop-i l = Asking l.indexed.records.section.now l.indexed.records.block (number_of_track l.track) l.p-items l.keys.again l.i l.met
