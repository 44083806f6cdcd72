use Rattle.std.proofs.Common.{rules}
use Rattle.strip_reader.proofs.Bodies.{four-put}
use Rattle.strip_reader.proofs.bone_fields.BoneFields.body.Goals as goal

pub returns : goal.returns
returns c = four-put _ _ _ _ _ _ _ _ _ _ _ _ _ (search rules) c.put-rotation.ensures c.put-translation.ensures c.put-orientation.ensures c.put.ensures
