-- The frame is asked first; where it meets nothing, a weight that is not finite is 14, and a finite one is answered. Assumes nothing.
use Rattle.std.proofs.Common.{refl, sym}
use Rattle.keys.proofs.Asking.{weight-fine, refused-14}
use Rattle.blocks.proofs.CastSigned.{cast_signed-is}
use Rattle.blocks.specs.declared.kind.Kind.{Kind}
use Rattle.track_keys.proofs.OneKey.{frame_refused, body-asked, key-told, refusal-told}
use Rattle.track_keys.proofs.key.morph_key.Goals as goal

pub returns-in-Err : goal.returns-in-Err
returns-in-Err c = refusal-told c.args.body.now.section.now c.args.track.0 c.args.frame c.args.body.now.at c.args.repeated (frame_refused c.args.body.now.section.now Kind.Morph c.args.track.0 c.args.frame c.args.body.now.at c.args.repeated c.in-Err.ensures)

pub returns-in-Some : goal.returns-in-Some
returns-in-Some c = key-told c.args.body.now.section.now c.args.track.0 c.args.frame c.args.body.now.at c.args.repeated c.in-Some.ensures.0 (body-asked c.args.body.now.section.now Kind.Morph c.args.track.0 c.args.frame c.args.body.now.at c.args.repeated c.in_default.ensures (weight-fine _ _ (sym c.in-Some.ensures.1) refl))

pub returns-in-None : goal.returns-in-None
returns-in-None c = rw (cast_signed-is _ c.cast_signed.type_inv c.cast_signed.ensures) (refusal-told c.args.body.now.section.now c.args.track.0 c.args.frame c.args.body.now.at c.args.repeated (body-asked c.args.body.now.section.now Kind.Morph c.args.track.0 c.args.frame c.args.body.now.at c.args.repeated c.in_default.ensures (refused-14 _ _ (sym c.in-None.ensures) refl)))
