-- In each turn the next record of the chain is marked: it is one of the kind's, so the slice has its place. Assumes nothing.
use native.Mathlib.Omega.{arith}
use Rattle.std.proofs.Common.{rules}
use Rattle.track_keys.proofs.ListedChain.{chain-few}
use Rattle.marks.proofs.Following.{begins, first-below, room}
use Rattle.marks.proofs.mark.mark_chain.Goals as goal

pub loop-p-init : goal.loop-p-init
loop-p-init c = begins c.args.chain.now.ends _ (search rules)

pub offset_bounds-marks-p : goal.offset_bounds-marks-p
offset_bounds-marks-p c = omega (arith, first-below c.loop-p.invariant c.in-Some.ensures.steps, c.args.chain.now.indexed.records.fits.few_records)

pub bounds-marks-p : goal.bounds-marks-p
bounds-marks-p c = omega (arith, first-below c.loop-p.invariant c.in-Some.ensures.steps, c.requires, c.loop-p.auto.marks)

pub overflow_add-n : goal.overflow_add-n
overflow_add-n c = omega (arith, room c.loop-p.invariant c.in-Some.ensures.steps, chain-few c.args.chain.now.ends)
