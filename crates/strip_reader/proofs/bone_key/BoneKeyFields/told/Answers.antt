use Rattle.std.proofs.Common.{rules, refl}
use Rattle.strip_reader.proofs.Told.{pose-told, curves-told}
use Rattle.strip_reader.proofs.bone_key.BoneKeyFields.told.Goals as goal

pub returns : goal.returns
returns c =
    let f = c.args.self.now.fields in
    let pose = pose-told f.curves f.rotation f.translation f.orientation c.body-body.result (search rules) (search rules) (search rules) (search rules) c.body-body.ensures c.pose_at.result _ c.pose_at.ensures in
    rw (pose, c.curves_at.ensures, curves-told f.curves f.rotation f.translation f.orientation c.body-body.result (search rules) (search rules) (search rules) (search rules) c.body-body.ensures) refl
