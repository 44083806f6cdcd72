-- Link 0 leaves nothing of the chain; any other link has its record, which is the first of what is left (AlongChain). Assumes nothing.
use native.Mathlib.Omega.{arith}
use Rattle.chains.proofs.AlongChain.{along-nothing, along-few, along-absent, along-more, along-first}
use Rattle.chains.proofs.positions.PositionsIterator.next.Goals as goal

pub returns-then-self-eq0-clause-steps : goal.returns-then-self-eq0-clause-steps
returns-then-self-eq0-clause-steps c =
    let none = along-nothing c.args.self.now.chain.ends c.args.self.now.along c.if-self-eq0.true in
    (none, none)

pub unreachable-requires : goal.unreachable-requires
unreachable-requires c = along-absent c.args.self.now.chain.ends c.args.self.now.along c.if-self-eq0.false c.in_default.ensures

pub overflow_add-self : goal.overflow_add-self
overflow_add-self c = let few = along-few c.args.self.now.chain.ends c.args.self.now.along c.if-self-eq0.false in omega (arith, few)

pub invariant_of-self : goal.invariant_of-self
invariant_of-self c = record { along = along-more c.args.self.now.chain.ends c.args.self.now.along c.if-self-eq0.false c.in-Some.ensures }

pub returns-clause-steps : goal.returns-clause-steps
returns-clause-steps c = along-first c.args.self.now.chain.ends c.args.self.now.along c.if-self-eq0.false c.in-Some.ensures
