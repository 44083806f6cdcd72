-- In each turn the record that the link leads to is put behind the others in the list (Going); a record whose previous link is the one
-- expected is a new one, so there is room. Link 0 and 6, 7 and 8 end the walk as they end the chain. Assumes nothing.
use native.Mathlib.Omega.{arith}
use Rattle.std.proofs.Common.{sym, ◌∙◌}
use Rattle.blocks.proofs.CastSigned.{cast_signed-is}
use Rattle.chains.proofs.Stepping.{inside}
use Rattle.chains.proofs.Going.{misses, cycles, wrong, more_room, goes_on, ends}
use Rattle.chains.proofs.lookup.Indexed.walk.Goals as goal

pub returns-in_default-clause-result_after : goal.returns-in_default-clause-result_after
returns-in_default-clause-result_after c = rw (cast_signed-is _ c.cast_signed.type_inv c.cast_signed.ensures) (misses c.args.self.now.ordered c.requires.is_track c.loop-link.invariant c.loop-link-test.true c.in_default.ensures)

pub previous_at-previous-requires : goal.previous_at-previous-requires
previous_at-previous-requires c = inside c.in-Some.ensures

pub returns-then-listed-clause-result_after : goal.returns-then-listed-clause-result_after
returns-then-listed-clause-result_after c = rw (cast_signed-is _ c.cast_signed-then-listed.type_inv c.cast_signed-then-listed.ensures) (cycles c.args.self.now.ordered c.requires.is_track c.loop-link.invariant c.loop-link-test.true c.in-Some.ensures c.previous_at-previous.ensures (sym c.if-listed.true ∙ c.listed.ensures))

pub returns-then-previous-expected-clause-result_after : goal.returns-then-previous-expected-clause-result_after
returns-then-previous-expected-clause-result_after c = rw (cast_signed-is _ c.cast_signed-then-previous-expected.type_inv c.cast_signed-then-previous-expected.ensures, cast_signed-is _ c.cast_signed-then-previous-expected-2.type_inv c.cast_signed-then-previous-expected-2.ensures, cast_signed-is _ c.cast_signed-then-previous-expected-3.type_inv c.cast_signed-then-previous-expected-3.ensures) (wrong c.args.self.now.ordered c.requires.is_track c.loop-link.invariant c.loop-link-test.true c.in-Some.ensures c.previous_at-previous.ensures (sym c.if-listed.false ∙ c.listed.ensures) c.if-previous-expected.true)

pub overflow_cast-list : goal.overflow_cast-list
overflow_cast-list c = omega (arith, inside c.in-Some.ensures, c.args.self.now.ordered.fits.few_records)

pub bounds-list-n : goal.bounds-list-n
bounds-list-n c =
    let less = more_room c.args.self.now.ordered c.requires.is_track c.loop-link.invariant c.loop-link-test.true c.in-Some.ensures c.previous_at-previous.ensures c.requires.count_in_bounds c.if-previous-expected.false in
    omega (arith, less, c.loop-link.invariant.same, c.requires.count_in_bounds)

pub loop-link-smaller : goal.loop-link-smaller
loop-link-smaller c =
    let less = more_room c.args.self.now.ordered c.requires.is_track c.loop-link.invariant c.loop-link-test.true c.in-Some.ensures c.previous_at-previous.ensures c.requires.count_in_bounds c.if-previous-expected.false in
    omega (arith, less)

pub loop-link-preserved : goal.loop-link-preserved
loop-link-preserved c = goes_on c.args.self.now.ordered c.requires.is_track c.loop-link.invariant c.loop-link-test.true c.in-Some.ensures c.previous_at-previous.ensures c.requires.count_in_bounds c.if-previous-expected.false

pub returns-clause-result_after : goal.returns-clause-result_after
returns-clause-result_after c = ends c.args.self.now.ordered c.requires.is_track c.loop-link.invariant c.loop-link-test.false
