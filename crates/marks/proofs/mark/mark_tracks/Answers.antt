-- In each turn the chain of one track more is marked; so many links as 65,535 chains have are counted without overflow. Assumes nothing.
use native.Mathlib.Omega.{arith}
use Rattle.std.proofs.Common.{ap, ◌+◌, ℕ}
use Rattle.marks.proofs.Passing.{no-track, all-tracks, few-followed, one-track}
use Rattle.track_keys.proofs.ListedChain.{chain-few}
use Rattle.marks.proofs.mark.mark_tracks.Goals as goal

pub loop-number-init : goal.loop-number-init
loop-number-init c = no-track c.requires

pub overflow_add-reached : goal.overflow_add-reached
overflow_add-reached c = omega (arith, few-followed c.args.chains.now.indexed.ordered c.loop-number.invariant c.loop-number-test.true, chain-few c.chain-chain.result.ends, c.mark_chain-reached.ensures.value)

pub loop-number-preserved : goal.loop-number-preserved
loop-number-preserved c =
    let many = rw (c.chain-chain.ensures.indexed, c.chain-chain.ensures.track, c.track.ensures.number) at c.mark_chain-reached.ensures.value in
    let are = rw (c.chain-chain.ensures.indexed, c.chain-chain.ensures.track, c.track.ensures.number) at c.mark_chain-reached.ensures.marks_after in
    one-track c.args.chains.now.indexed.ordered c.loop-number.invariant c.loop-number-test.true are (ap (λ (n : ℕ). c.loop-number.reached + n) many)

pub returns : goal.returns
returns c = let both = all-tracks c.loop-number.invariant (omega (arith, c.loop-number-test.false, c.loop-number.auto.number-end)) in record { marks_after = both.0; value = both.1 }
