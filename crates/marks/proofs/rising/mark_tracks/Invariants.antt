-- Outer loop: the tracks below `number` meet nothing and are marked. Inner loop: the track's records so far are linked from the initial one
-- on to `link`, their frames rise to `frame`, their keys meet nothing, and they are marked; they are no more than all records.
use Prim.Native.Nat.{◌+◌, ◌-◌}
use Rattle.blocks.specs.Track.{number_of_track}
use Rattle.marks.proofs.RisingChains.{Tracking, Seeing}
use Rattle.marks.proofs.rising.mark_tracks.Given as goal

abbrev pub invariant-tracks : goal.invariant-tracks
invariant-tracks l = Tracking l.indexed.records.section.now l.indexed.records.block l.marks l.reached l.number l.rising

abbrev pub invariant-loop-link : goal.invariant-loop-link
invariant-loop-link l = Seeing l.indexed.records.section.now l.indexed.records.block (number_of_track l.track) l.initial.marks l.marks l.initial.reached l.reached l.expected l.link l.frame l.rising

abbrev pub decreases-loop-link : goal.decreases-loop-link
decreases-loop-link l = l.initial.reached + l.indexed.records.block.records.count - l.reached
