-- The sizes of the first item and of the runs add up to the record's. Assumes nothing.
use Rattle.std.proofs.Common.{◌*◌, ap, sym, ◌∙◌}
use Rattle.binary.specs.declared.runs.Run.{Run}
use Rattle.binary.proofs.Passing.{sized-more, sized-all}
use Rattle.binary.proofs.blocks.record_size.Goals as goal

pub loop-run-preserved : goal.loop-run-preserved
loop-run-preserved c = sized-more c.args.items.now _ _ c.loop-run-test.true c.run-item.is _ _ (c.size-size.ensures.is ∙ ap (λ (r : Run). r.times * r.width) (sym c.run-item.is)) c.size-size.ensures.small c.loop-run.invariant

pub returns : goal.returns
returns c = sized-all c.args.items.now _ _ c.loop-run-test.false c.loop-run.invariant
