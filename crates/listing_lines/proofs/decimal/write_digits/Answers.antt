use Rattle.std.proofs.Common.{◌-◌, ◌+◌, ◌%◌, ◌∙◌, arith}
use Rattle.std.proofs.Math.ListN.{length-set}
use Rattle.std.proofs.lemmas.Fmt.{length-decimal-le, decimal_nonempty}
use Rattle.listing_lines.proofs.Digits.{none-yet, one-more, last, length-step}
use Rattle.listing_lines.proofs.decimal.write_digits.Goals as goal

pub loop-left-init : goal.loop-left-init
loop-left-init c =
    let n = c.args.n in
    let small = c.ranges.n.fits in
    record {
      whole = c.told-digits;
      room = length-decimal-le 20 n (omega arith) (omega arith) (omega arith);
      within = omega arith;
      so_far = none-yet n c.args.digits.now c.told-digits;
    }

pub overflow_sub-at : goal.overflow_sub-at
overflow_sub-at c =
    let l = c.loop-left in
    omega (arith, decimal_nonempty l.left (omega arith))

pub loop-left-preserved : goal.loop-left-preserved
loop-left-preserved c =
    let l = c.loop-left in
    let shorter = length-step l.left (omega arith) (omega arith) in
    record {
      whole = length-set l.digits (l.at - 1) (48 + l.left % 10) ∙ l.invariant.whole;
      room = omega arith;
      within = omega arith;
      so_far = one-more l.left l.at l.digits _ (omega arith) (omega arith) (omega arith) (omega arith) l.invariant.so_far;
    }

pub overflow_sub-at-2 : goal.overflow_sub-at-2
overflow_sub-at-2 c =
    let l = c.loop-left in
    omega (arith, decimal_nonempty l.left (omega arith))

pub returns-clause-leaves : goal.returns-clause-leaves
returns-clause-leaves c =
    let l = c.loop-left in
    let some = decimal_nonempty l.left (omega arith) in
    last l.left l.at l.digits _ (omega arith) (omega arith) (omega arith) l.invariant.so_far
