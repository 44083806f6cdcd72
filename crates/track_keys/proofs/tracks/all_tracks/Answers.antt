-- The first refusal leaves both loops: the tracks before met nothing, nor did the track's keys before, so it is what the tracks meet. A
-- loop that ends without one leaves a track that meets nothing. Assumes nothing.
use native.Mathlib.Omega.{arith}
use Rattle.std.proofs.Common.{◌∙◌}
use Rattle.blocks.specs.Track.{number_of_track}
use Rattle.track_keys.proofs.Meets.{all_meet}
use Rattle.track_keys.proofs.Asking.{Ready-track, tracking, position-below, record-refused, asking-more, tracking-more}
use Rattle.track_keys.proofs.tracks.all_tracks.Goals as goal

pub tracks-init : goal.tracks-init
tracks-init c = tracking _ _ _

pub record_key-asked-requires-clause-p_lt_count : goal.record_key-asked-requires-clause-p_lt_count
record_key-asked-requires-clause-p_lt_count c =
    let k : Ready-track c.args.indexed.now.records.section.now c.args.indexed.now.records.block c.args.indexed.now.slots.now (number_of_track c.track-track.result) c.make_ready.new.list c.in-Ok.keys.records c.in-Ok.keys.again = record { ordered = c.args.indexed.now.ordered; is-track = c.track-track.ensures.is_track.below; room = omega (arith, c.requires, c.make_ready.auto.list, c.tracks.invariant.same); keys = c.in-Ok.ensures } in
    position-below k _ c.loop-i-test.true

pub loop-i-preserved : goal.loop-i-preserved
loop-i-preserved c =
    let k : Ready-track c.args.indexed.now.records.section.now c.args.indexed.now.records.block c.args.indexed.now.slots.now (number_of_track c.track-track.result) c.make_ready.new.list c.in-Ok.keys.records c.in-Ok.keys.again = record { ordered = c.args.indexed.now.ordered; is-track = c.track-track.ensures.is_track.below; room = omega (arith, c.requires, c.make_ready.auto.list, c.tracks.invariant.same); keys = c.in-Ok.ensures } in
    asking-more k c.loop-i-test.true c.loop-i.invariant c.in_default.ensures

pub tracks-preserved : goal.tracks-preserved
tracks-preserved c =
    let k : Ready-track c.args.indexed.now.records.section.now c.args.indexed.now.records.block c.args.indexed.now.slots.now (number_of_track c.track-track.result) c.make_ready.new.list c.in-Ok.keys.records c.in-Ok.keys.again = record { ordered = c.args.indexed.now.ordered; is-track = c.track-track.ensures.is_track.below; room = omega (arith, c.requires, c.make_ready.auto.list, c.tracks.invariant.same); keys = c.in-Ok.ensures } in
    tracking-more k c.track-track.ensures.number c.loop-i-test.false c.loop-i.invariant c.tracks.invariant (c.make_ready.auto.list ∙ c.tracks.invariant.same)

pub returns-in-Err : goal.returns-in-Err
returns-in-Err c = all_meet _ _ _ _ c.track-track.ensures.is_track.below (rw c.track-track.ensures.number c.tracks.invariant.before) c.in-Err.ensures

pub returns-in-Err-asked : goal.returns-in-Err-asked
returns-in-Err-asked c =
    let k : Ready-track c.args.indexed.now.records.section.now c.args.indexed.now.records.block c.args.indexed.now.slots.now (number_of_track c.track-track.result) c.make_ready.new.list c.in-Ok.keys.records c.in-Ok.keys.again = record { ordered = c.args.indexed.now.ordered; is-track = c.track-track.ensures.is_track.below; room = omega (arith, c.requires, c.make_ready.auto.list, c.tracks.invariant.same); keys = c.in-Ok.ensures } in
    all_meet _ _ _ _ c.track-track.ensures.is_track.below (rw c.track-track.ensures.number c.tracks.invariant.before) (record-refused k c.loop-i-test.true c.loop-i.invariant c.in-Err-asked.ensures)
