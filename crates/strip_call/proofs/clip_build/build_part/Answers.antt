-- The part of each slice is built and put back: it holds what the build left, and nothing outside it changed (PartLaws). Assumes nothing.
use Rattle.strip_call.proofs.PartLaws.{put-back}
use Rattle.strip_call.proofs.clip_build.build_part.Goals as goal

pub returns : goal.returns
returns c =
    let one = put-back c.args.from c.args.records.now.block.records.count c.args.first.now c.build_kind.new.slots c.requires.first_long_enough c.build_kind.ensures.slots_len_unchanged in
    let two = put-back c.args.from c.args.records.now.block.records.count c.args.second.now c.build_kind.new.marks c.requires.second_long_enough c.build_kind.ensures.marks_len_unchanged in
    record { builds = rw (one.holds, two.holds) c.build_kind.ensures.builds; first_outside = one.outside; second_outside = two.outside }
