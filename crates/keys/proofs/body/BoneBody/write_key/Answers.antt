-- The key is its head, its pose and its curves, one behind the other. Assumes nothing.
use Rattle.keys.proofs.Lengths.{bone-parts, bone-room}
use Rattle.keys.proofs.Placing.{room-first, room-second, room-third, wrote-three}
use mathlib.Core.Path.{refl}
use Rattle.keys.proofs.body.BoneBody.write_key.Goals as goal

pub write_head-pose-requires : goal.write_head-pose-requires
write_head-pose-requires c = room-first _ _ _ _ _ (bone-room _ _ _ _ _ _ _ _ c.plain-plain.ensures refl c.map_byte-map.ensures c.requires)

pub write_pose-next-requires : goal.write_pose-next-requires
write_pose-next-requires c = room-second _ _ _ _ _ (bone-room _ _ _ _ _ _ _ _ c.plain-plain.ensures refl c.map_byte-map.ensures c.requires) _ _ c.write_head-pose.ensures

pub write_curves-requires : goal.write_curves-requires
write_curves-requires c = room-third _ _ _ _ _ (bone-room _ _ _ _ _ _ _ _ c.plain-plain.ensures c.curves.ensures c.map_byte-map.ensures c.requires) _ _ c.write_head-pose.ensures _ _ c.write_pose-next.ensures

pub returns : goal.returns
returns c =
    rw (← bone-parts _ _ _ _ _ _ c.plain-plain.ensures c.curves.ensures c.map_byte-map.ensures)
    (wrote-three _ _ _ _ _ (bone-room _ _ _ _ _ _ _ _ c.plain-plain.ensures c.curves.ensures c.map_byte-map.ensures c.requires) _ _ c.write_head-pose.ensures _ _ c.write_pose-next.ensures _ _ c.write_curves.ensures)
