-- The map byte is written behind the frame. Assumes nothing.
use Rattle.keys.proofs.Placing.{room_back, wrote_then}
use Rattle.keys.proofs.Stores.{number-put, head-room}
use native.Mathlib.Omega.{arith}
use Rattle.keys.proofs.write.write_head.Goals as goal

pub put-next-requires : goal.put-next-requires
put-next-requires c = let fits = head-room _ _ _ _ c.requires in omega (arith, fits)

pub put-requires : goal.put-requires
put-requires c = room_back _ _ _ _ c.requires _ _ (number-put _ _ _ _ _ _ c.to_le_bytes.ensures c.put-next.ensures)

pub returns : goal.returns
returns c = wrote_then _ _ _ _ c.requires _ _ (number-put _ _ _ _ _ _ c.to_le_bytes.ensures c.put-next.ensures) _ _ c.put.ensures
