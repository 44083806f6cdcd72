-- The orientation is written behind the translation. Assumes nothing.
use Rattle.keys.proofs.Placing.{wrote_then}
use Rattle.keys.proofs.plain.BonePlain.write_pose.Goals as goal

pub returns : goal.returns
returns c = wrote_then _ _ _ _ c.requires _ _ (rw c.translation.ensures at c.put_unless-next.ensures) _ _ (rw c.orientation.ensures at c.put_unless.ensures)
