-- A slot has the given number, or equal numbers stand side by side. Assumes nothing.
use Rattle.order.proofs.Laws.{sorted-below, sorted-numbers}
use Rattle.order.proofs.repeats.repeats.Goals as goal

pub invariant_of-read : goal.invariant_of-read
invariant_of-read c = record { all_below = sorted-below _ _ _ _ c.sort.ensures _ c.requires.all_below }

pub invariant_of-rising : goal.invariant_of-rising
invariant_of-rising c = record { numbers_rise = sorted-numbers _ _ _ _ c.sort.ensures c.args.numbers.now.within c.requires.all_below }
