-- The four pieces, each written behind the one before, are the strip (Pieces). Assumes nothing.
use Rattle.strip_call.proofs.Pieces.{all-written}
use Rattle.strip_call.proofs.clip_bytes.Clip.write.Goals as goal

pub returns : goal.returns
returns c = all-written c.args.self.now.bones.indexed.records.section.now c.args.self.now.bones.indexed.records.block c.args.self.now.morphs.indexed.records.block _ c.requires c.write_count.ensures c.write_count-2.ensures c.write_tracks-behind.ensures (rw c.args.self.now.one_section at c.write_tracks.ensures)
