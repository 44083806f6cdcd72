-- A turn of the inner loop is one step along the chain, to a record that stands rightly behind; link 0 leaves a track that meets nothing,
-- which the outer loop's invariant takes in. Where anything else is found `rising` is false, and nothing is promised. Assumes nothing.
use native.Mathlib.Omega.{arith}
use Rattle.std.proofs.Common.{rules, ap, sym, ℕ, ◌+◌}
use Rattle.clip.proofs.First.{contrary}
use Rattle.chains.proofs.Stepping.{inside}
use Rattle.marks.proofs.Passing.{as_many, few-followed}
use Rattle.marks.proofs.RisingChains.{tracking, begins, few-seen, goes_on, ends, all-rise}
use Rattle.marks.proofs.rising.mark_tracks.Goals as goal
use Rattle.marks.proofs.rising.mark_tracks.Goals.{else-tracks-test, then-tracks-test+then-is_err, then-tracks-test+else-is_err+then-loop-link-test+in_default, then-tracks-test+else-is_err+then-loop-link-test+in-Some+in_default-behind}

pub tracks-init : goal.tracks-init
tracks-init c = tracking _ _ c.requires

pub loop-link-init : goal.loop-link-init
loop-link-init c = begins _ _ _ _ _ c.number-expected.ensures c.first_link-link.ensures c.first_frame-frame.ensures c.tracks.invariant.nothing

pub behind-requires-clause-p_lt_count : goal.behind-requires-clause-p_lt_count
behind-requires-clause-p_lt_count c = inside c.in-Some.ensures

pub offset_bounds-marks-step : goal.offset_bounds-marks-step
offset_bounds-marks-step c = omega (arith, inside c.in-Some.ensures, c.args.indexed.now.ordered.fits.few_records)

pub bounds-marks-step : goal.bounds-marks-step
bounds-marks-step c = omega (arith, inside c.in-Some.ensures, c.loop-link.auto.marks, as_many c.tracks.invariant.passing)

pub overflow_add-reached : goal.overflow_add-reached
overflow_add-reached c = omega (arith, few-seen c.args.indexed.now.ordered c.track-track.ensures.is_track.below c.loop-link.invariant c.in-Some.ensures c.loop-link-test.true c.in-Some-behind.ensures.0, few-followed c.args.indexed.now.ordered c.tracks.invariant.passing c.tracks-test.true, c.args.indexed.now.ordered.fits.few_records)

pub loop-link-smaller : goal.loop-link-smaller
loop-link-smaller c = omega (arith, few-seen c.args.indexed.now.ordered c.track-track.ensures.is_track.below c.loop-link.invariant c.in-Some.ensures c.loop-link-test.true c.in-Some-behind.ensures.0)

pub loop-link-preserved : goal.loop-link-preserved
loop-link-preserved c = goes_on c.args.indexed.now.ordered c.track-track.ensures.is_track.below c.loop-link.invariant c.in-Some.ensures c.loop-link-test.true c.in-Some-behind.ensures.0 c.in-Some-behind.ensures.1 (ap (λ (n : ℕ). n + 1) (sym c.track-track.ensures.number))

pub tracks-preserved : goal.tracks-preserved
tracks-preserved c = ends c.args.indexed.now.ordered c.track-track.ensures.is_track.below c.loop-link.invariant (search rules) c.loop-link-test.false c.track-track.ensures.number c.tracks.invariant

pub returns-then-rising-clause-tracks_marked : goal.returns-then-rising-clause-tracks_marked
returns-then-rising-clause-tracks_marked c =
    elim c.tracks-test.branch [
      | else-tracks-test w ↦ rw (w.marks-is, w.reached-is) (all-rise c.tracks.invariant (omega (arith, w.tracks-test.false, c.tracks.auto.number-end)))
      | then-tracks-test+then-is_err w ↦ contrary _ c.if-rising.true w.rising-is
      | then-tracks-test+else-is_err+then-loop-link-test+in_default w ↦ contrary _ c.if-rising.true w.rising-is
      | then-tracks-test+else-is_err+then-loop-link-test+in-Some+in_default-behind w ↦ contrary _ c.if-rising.true w.rising-is
    ]
