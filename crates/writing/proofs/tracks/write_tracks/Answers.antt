-- In each turn one track more is written. Assumes nothing.
use Rattle.writing.proofs.Filling.{tracks-none, tracks-room, tracks-more}
use Rattle.writing.proofs.tracks.write_tracks.Goals as goal

pub loop-number-init : goal.loop-number-init
loop-number-init c = tracks-none c.requires.room

pub write_track-end-requires : goal.write_track-end-requires
write_track-end-requires c = rw (c.chain.ensures.indexed, c.chain.ensures.track, c.track-track.ensures.number) (record { fine = c.requires.fine c.loop-number.number c.loop-number-test.true; room = tracks-room c.requires.room c.loop-number.invariant c.loop-number-test.true })

pub loop-number-preserved : goal.loop-number-preserved
loop-number-preserved c = tracks-more c.requires.room c.loop-number.invariant c.loop-number-test.true (rw (c.chain.ensures.indexed, c.chain.ensures.track, c.track-track.ensures.number) at c.write_track-end.ensures)
