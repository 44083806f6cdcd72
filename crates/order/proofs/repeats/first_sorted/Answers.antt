-- What the pass over sorted neighbours finds is the first repeat in file order. Assumes nothing.
use Rattle.order.proofs.Laws.{sorted-below}
use Rattle.order.proofs.FirstOfAll.{filled-below, first-repeat}
use Rattle.order.proofs.repeats.first_sorted.Goals as goal

pub sort-requires : goal.sort-requires
sort-requires c = filled-below _ _ c.args.numbers.now.within _ c.requires _ c.put_in_file_order.ensures

pub invariant_of-read : goal.invariant_of-read
invariant_of-read c = record { all_below = sorted-below _ _ _ _ c.sort.ensures _ (filled-below _ _ c.args.numbers.now.within _ c.requires _ c.put_in_file_order.ensures) }

pub returns-clause-first_repeat : goal.returns-clause-first_repeat
returns-clause-first_repeat c = first-repeat _ _ c.args.numbers.now.within _ c.requires _ c.put_in_file_order.ensures _ c.sort.ensures _ c.least_behind.ensures
