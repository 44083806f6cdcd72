-- The body is asked only where the frame meets nothing; then what the body meets is what the key meets (OneKey). Assumes nothing.
use Rattle.blocks.proofs.CastSigned.{cast_signed-is}
use Rattle.blocks.specs.declared.kind.Kind.{Kind}
use Rattle.track_keys.proofs.OneKey.{body-asked}
use Rattle.track_keys.proofs.key.bone_key.Goals as goal

pub returns-in-Ok : goal.returns-in-Ok
returns-in-Ok c = body-asked c.args.body.now.section.now Kind.Bone c.args.track.0 c.args.frame c.args.body.now.at c.args.repeated c.in_ok-frame_asked.ensures c.in-Ok.ensures

pub returns-in-Err-Translation : goal.returns-in-Err-Translation
returns-in-Err-Translation c = rw (cast_signed-is _ c.cast_signed.type_inv c.cast_signed.ensures) (body-asked c.args.body.now.section.now Kind.Bone c.args.track.0 c.args.frame c.args.body.now.at c.args.repeated c.in_ok-frame_asked.ensures (rw c.in-Err-Translation.field-0-is at c.in-Err-Translation.ensures))

pub returns-in-Err-Orientation : goal.returns-in-Err-Orientation
returns-in-Err-Orientation c = rw (cast_signed-is _ c.cast_signed-in-Err-Orientation.type_inv c.cast_signed-in-Err-Orientation.ensures) (body-asked c.args.body.now.section.now Kind.Bone c.args.track.0 c.args.frame c.args.body.now.at c.args.repeated c.in_ok-frame_asked.ensures (rw c.in-Err-Orientation.field-0-is at c.in-Err-Orientation.ensures))
