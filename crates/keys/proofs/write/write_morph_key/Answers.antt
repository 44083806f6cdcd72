-- The key is its head and its weight, which is plain by its value. Assumes nothing.
use Rattle.std.proofs.Common.{rules, ◌∙◌}
use Rattle.keys.proofs.Lengths.{morph-parts, morph-room}
use Rattle.keys.proofs.Placing.{room-front, room_back, wrote_then}
use Rattle.keys.proofs.Stores.{four-bytes}
use Rattle.keys.proofs.Weights.{weight-plain}
use Rattle.keys.proofs.write.write_morph_key.Goals as goal

pub write_head-next-requires : goal.write_head-next-requires
write_head-next-requires c = room-front _ _ _ _ (morph-room _ _ _ _ _ _ (weight-plain c.args.weight (search rules)) c.unless-map.ensures c.requires.room)

pub put_unless-requires : goal.put_unless-requires
put_unless-requires c =
    rw (c.to_le_bytes.ensures ∙ four-bytes _) (room_back _ _ _ _ (morph-room _ _ _ _ _ _ (weight-plain c.args.weight (search rules)) c.unless-map.ensures c.requires.room) _ _ c.write_head-next.ensures)

pub returns : goal.returns
returns c =
    rw (← morph-parts _ _ _ _ (weight-plain c.args.weight (search rules)) c.unless-map.ensures)
    (wrote_then _ _ _ _ (morph-room _ _ _ _ _ _ (weight-plain c.args.weight (search rules)) c.unless-map.ensures c.requires.room) _ _ c.write_head-next.ensures _ _ (rw (c.to_le_bytes.ensures ∙ four-bytes _) at c.put_unless.ensures))
