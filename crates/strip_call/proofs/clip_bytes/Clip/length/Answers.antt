-- The tracks of a kind have at most 65,535 times 4,000,000 bytes (writing, Measuring), so the sum does not overflow. Assumes nothing.
use native.Mathlib.Omega.{arith}
use Rattle.writing.proofs.Measuring.{tracks-fit}
use Rattle.strip_call.proofs.clip_bytes.Clip.length.Goals as goal

pub overflow_add-result : goal.overflow_add-result
overflow_add-result c =
    let bones = tracks-fit c.args.self.now.bones.indexed.ordered c.args.self.now.bones.all_end c.args.self.now.bones.indexed.records.block.initials.count (omega arith) in
    omega (arith, c.tracks_length.ensures, bones)

pub overflow_add-result-2 : goal.overflow_add-result-2
overflow_add-result-2 c =
    let bones = tracks-fit c.args.self.now.bones.indexed.ordered c.args.self.now.bones.all_end c.args.self.now.bones.indexed.records.block.initials.count (omega arith) in
    let morphs = tracks-fit c.args.self.now.morphs.indexed.ordered c.args.self.now.morphs.all_end c.args.self.now.morphs.indexed.records.block.initials.count (omega arith) in
    omega (arith, c.tracks_length.ensures, c.tracks_length-2.ensures, bones, morphs)
