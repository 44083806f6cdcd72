-- The initial record's key and the chain's keys are written behind two places, and then the key count into them. Assumes nothing.
use native.Mathlib.Omega.{arith}
use Rattle.writing.proofs.OfRecord.{bytes-read}
use Rattle.writing.proofs.Measuring.{chain-most}
use Rattle.writing.proofs.OneTrack.{initial-room, track-wrote}
use Rattle.writing.proofs.track.write_track.Goals as goal

pub write_key-next-requires-clause-room : goal.write_key-next-requires-clause-room
write_key-next-requires-clause-room c = rw (bytes-read _ c.initial_key-initial.ensures.section c.initial_key-initial.ensures.kind c.initial_key-initial.ensures.frame c.initial_key-initial.ensures.at) (initial-room _ _ _ _ _ c.requires.room)

pub overflow_add-written : goal.overflow_add-written
overflow_add-written c = omega (arith, chain-most c.args.chain.now.ends, c.write_records-written.ensures.records_value)

pub returns : goal.returns
returns c = track-wrote _ _ _ _ _ c.requires.room _ _ (rw (bytes-read _ c.initial_key-initial.ensures.section c.initial_key-initial.ensures.kind c.initial_key-initial.ensures.frame c.initial_key-initial.ensures.at) at c.write_key-next.ensures) _ _ c.write_records-written.ensures.wrote _ _ c.write_records-written.ensures.records_value c.write_count.ensures
