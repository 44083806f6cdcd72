-- In each turn the next record of the chain is counted. Assumes nothing.
use lib.ListN.{length}
use mathlib.Core.Path.{ap, ◌∙◌}
use mathlib.Core.List.{List}
use native.Mathlib.Omega.{arith}
use Prim.Native.Nat.{ℕ}
use Rattle.writing.proofs.OfRecord.{bytes-read, accepted}
use Rattle.writing.proofs.Measuring.{next-below, next-fine, measured-fits, measured-more}
use Rattle.writing.proofs.chain.measure.Goals as goal

pub key-requires : goal.key-requires
key-requires c = next-below c.loop-p.invariant.passed _ _ c.in-Some.ensures.steps c.args.chain.now.ends

pub key_length-bytes-requires : goal.key_length-bytes-requires
key_length-bytes-requires c = accepted _ c.key.ensures.section c.key.ensures.kind c.key.ensures.frame c.key.ensures.at c.args.chain.now.is_track.kind (next-fine c.loop-p.invariant.passed _ _ c.in-Some.ensures.steps c.requires)

pub overflow_add-bytes : goal.overflow_add-bytes
overflow_add-bytes c = omega (arith, measured-fits c.args.chain.now.ends c.loop-p.invariant _ _ c.in-Some.ensures.steps (c.key_length-bytes.ensures ∙ ap (λ (bs : List ℕ). length bs) (bytes-read _ c.key.ensures.section c.key.ensures.kind c.key.ensures.frame c.key.ensures.at)))

pub loop-p-preserved : goal.loop-p-preserved
loop-p-preserved c = measured-more c.args.chain.now.ends c.loop-p.invariant _ _ c.in-Some.ensures.steps (c.key_length-bytes.ensures ∙ ap (λ (bs : List ℕ). length bs) (bytes-read _ c.key.ensures.section c.key.ensures.kind c.key.ensures.frame c.key.ensures.at))
