-- In each turn one track more is measured. Assumes nothing.
use native.Mathlib.Omega.{arith}
use Rattle.writing.proofs.Measuring.{tracks-fit, track-fits}
use Rattle.writing.proofs.tracks.tracks_length.Goals as goal

pub overflow_add-bytes : goal.overflow_add-bytes
overflow_add-bytes c =
    let front = tracks-fit c.args.chains.now.indexed.ordered c.args.chains.now.all_end c.loop-number.number (omega arith) in
    let one = track-fits c.args.chains.now.indexed.ordered c.args.chains.now.all_end c.loop-number.number c.loop-number-test.true in
    let is = rw (c.chain.ensures.indexed, c.chain.ensures.track, c.track-track.ensures.number) at c.track_length-bytes.ensures in
    omega (arith, c.loop-number.invariant, front, one, is)

pub track_length-bytes-requires : goal.track_length-bytes-requires
track_length-bytes-requires c = rw (c.chain.ensures.indexed, c.chain.ensures.track, c.track-track.ensures.number) (c.requires c.loop-number.number c.loop-number-test.true)
