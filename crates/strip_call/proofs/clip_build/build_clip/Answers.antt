-- Reached and loose of both kinds are at most 131,068 together, so their sums do not overflow (Clipped). Assumes nothing.
use native.Mathlib.Omega.{arith}
use Rattle.strip_call.proofs.Clipped.{few-reached, few-loose}
use Rattle.strip_call.proofs.clip_build.build_clip.Goals as goal

pub overflow_add-result : goal.overflow_add-result
overflow_add-result c = omega (arith, few-reached c.args.records.now.bones.fits.few_records c.args.records.now.morphs.fits.few_records c.in_ok-of_bones.ensures.builds c.in_ok-of_morphs.ensures.builds)

pub overflow_add-result-2 : goal.overflow_add-result-2
overflow_add-result-2 c = omega (arith, few-loose c.args.records.now.bones.fits.few_records c.args.records.now.morphs.fits.few_records c.in_ok-of_bones.ensures.builds c.in_ok-of_morphs.ensures.builds)
