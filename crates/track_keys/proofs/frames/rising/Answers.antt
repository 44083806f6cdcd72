-- The list holds the chain, so each position in it is a record's. Assumes nothing.
use Rattle.track_keys.proofs.ChainFrames.{held_below}
use Rattle.track_keys.proofs.frames.rising.Goals as goal

pub frame_at-frame-requires : goal.frame_at-frame-requires
frame_at-frame-requires c = held_below _ _ _ c.requires c.args.chain.now.ends _ c.loop-i-test.true
