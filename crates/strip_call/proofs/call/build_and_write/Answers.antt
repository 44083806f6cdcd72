-- A build that was accepted meets nothing, so no key does, and the clip may be written; then the slices and the answer are the definition's
-- (Ended). Assumes nothing.
use Rattle.strip_call.proofs.Built.{build-fine}
use Rattle.strip_call.proofs.Ended.{written-says}
use Rattle.strip_call.proofs.call.build_and_write.Goals as goal

pub invariant_of-clip-5 : goal.invariant_of-clip-5
invariant_of-clip-5 c =
    let passed = c.in_ok-counted.ensures.builds in
    record {
      fine_bones = build-fine _ _ passed.of_bones.meets;
      fine_morphs = rw c.args.records.now.one_section (build-fine _ _ passed.of_morphs.meets);
      one_section = c.args.records.now.one_section;
      short = c.args.records.now.short passed.of_bones.meets passed.of_morphs.meets;
    }

pub returns : goal.returns
returns c = written-says c.args.records.now.bones.section.now c.args.records.now.bones.block c.args.records.now.morphs.block c.build_clip.ensures.first_outside c.build_clip.ensures.second_outside c.in_ok-counted.ensures.builds c.requires.first_long_enough c.requires.second_long_enough c.in_default.ensures c.write-strip_length.ensures
