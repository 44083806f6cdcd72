-- `last` is the frame of key `i`, and the frames of keys 0 to `i` rise.
use lib.ListN.{length}
use mathlib.Core.Path.{◌≡◌}
use Rattle.blocks.specs.Track.{number_of_track}
use Rattle.track_keys.specs.Frames.{frames_at, Rising}
use Rattle.track_keys.proofs.frames.rising.Given as goal

abbrev pub invariant-loop-i : goal.invariant-loop-i
invariant-loop-i l =
    (l.last ≡ frames_at l.chain.indexed.records.section.now l.chain.indexed.records.block (number_of_track l.chain.track) l.i)
    × Rising (frames_at l.chain.indexed.records.section.now l.chain.indexed.records.block (number_of_track l.chain.track)) (length l.list) l.i
