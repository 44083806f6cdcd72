-- Numbers do not fall along the slots, so those that pass the closure's test come first (Halving), and where std's `partition_point` parts
-- them is the first place. Assumes nothing.
use Rattle.std.proofs.Common.{rules}
use Rattle.std.proofs.lemmas.List.Sorted.{IsPartitionPoint-from_clause}
use Rattle.order.specs.Field.{number_of}
use Rattle.order.proofs.Halving.{under, parted, first}
use Rattle.order.proofs.search.Rising.first_place.Goals as goal

pub returns : goal.returns
returns c =
    let v = number_of c.args.self.now.slots.numbers.section.now c.args.self.now.slots.numbers.field in
    let xs = c.args.self.now.slots.positions.now in
    let low = c.args.self.now.slots.all_below in
    first v _ c.args.number xs low c.args.self.now.numbers_rise _ c.partition_point.ensures.bound
    (IsPartitionPoint-from_clause (under v _ c.args.number xs low) _ _ c.partition_point.ensures.partitioned (parted v _ c.args.number xs low c.args.self.now.numbers_rise) (λ a r q k. search rules))
