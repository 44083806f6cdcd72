-- In each turn the key of the next record of the chain is written. Assumes nothing.
use native.Mathlib.Omega.{arith}
use mathlib.Core.Path.{ap, ◌∙◌}
use Rattle.chains.specs.Positions.{positions_left}
use Rattle.writing.proofs.OfRecord.{bytes-read, accepted}
use Rattle.writing.proofs.Measuring.{next-below, next-fine}
use Rattle.writing.proofs.Filling.{filled_none, filled-room, filled-few, filled_more}
use Rattle.writing.proofs.chain.write_records.Goals as goal

pub loop-p-init : goal.loop-p-init
loop-p-init c = filled_none _ _ _ _ _ (ap positions_left c.into_iter-p-iterator.ensures.into_iter_gives ∙ c.positions-p-items.ensures)

pub key-record-requires : goal.key-record-requires
key-record-requires c = next-below c.loop-p.invariant.passed _ _ c.in-Some.ensures.steps c.args.chain.now.ends

pub write_key-requires : goal.write_key-requires
write_key-requires c = record {
  accepted = accepted _ c.key-record.ensures.section c.key-record.ensures.kind c.key-record.ensures.frame c.key-record.ensures.at c.args.chain.now.is_track.kind (next-fine c.loop-p.invariant.passed _ _ c.in-Some.ensures.steps c.requires.fine);
  room = rw (bytes-read _ c.key-record.ensures.section c.key-record.ensures.kind c.key-record.ensures.frame c.key-record.ensures.at) (filled-room c.args.chain.now.ends c.requires.room c.loop-p.invariant _ _ c.in-Some.ensures.steps);
}

pub overflow_add-written : goal.overflow_add-written
overflow_add-written c = omega (arith, filled-few c.args.chain.now.ends c.requires.room c.loop-p.invariant)

pub loop-p-preserved : goal.loop-p-preserved
loop-p-preserved c = filled_more c.args.chain.now.ends c.requires.room c.loop-p.invariant _ _ c.in-Some.ensures.steps (rw (bytes-read _ c.key-record.ensures.section c.key-record.ensures.kind c.key-record.ensures.frame c.key-record.ensures.at) at c.write_key.ensures)
