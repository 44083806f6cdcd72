-- The blocks of a section that was read stand in its bytes, and its strip, where the build meets nothing, is no longer than the section;
-- where the slices are long enough, the definition is what the blocks give (Called). Assumes nothing.
use native.Mathlib.Omega.{arith}
use mathlib.Core.Path.{refl}
use Rattle.strip_call.proofs.Called.{bones-within, morphs-within, no_longer-here, long-enough}
use Rattle.strip_call.proofs.call.strip_model.Goals as goal

pub invariant_of-bones : goal.invariant_of-bones
invariant_of-bones c = record { fits = bones-within c.requires c.model_block.ensures c.model_block-2.ensures }

pub invariant_of-morphs : goal.invariant_of-morphs
invariant_of-morphs c = record { fits = morphs-within c.requires c.model_block.ensures c.model_block-2.ensures }

pub invariant_of-records : goal.invariant_of-records
invariant_of-records c = record { one_section = refl; short = no_longer-here c.requires c.model_block.ensures c.model_block-2.ensures }

pub returns : goal.returns
returns c = long-enough c.requires c.model_block.ensures c.model_block-2.ensures c.args.first.now c.args.second.now c.args.output.now (omega (arith, c.need-need.ensures, c.if-first-need.false)) (omega (arith, c.need-need.ensures, c.if-second-need.false)) c.strip_records.ensures
