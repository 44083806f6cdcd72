-- If the sorted list tells of no repeat, there is none. Else each frame along the chain is the first repeat, if it is the initial record's
-- or marked already, or it is marked now and the frames so far stay different (Again). Assumes nothing.
use native.Mathlib.Omega.{arith}
use Rattle.std.proofs.Common.{◌<◌, ◌∙◌, ap, sym, length}
use Rattle.std.proofs.lemmas.List.{length_push}
use Rattle.track_keys.proofs.Numbered.{turn, turns-end}
use Rattle.track_keys.proofs.ChainFrames.{chain-frame, turn-below, held_below, held-once, held-apart}
use Rattle.track_keys.proofs.Again.{again-starts, again-rise, again-long, again-first, again-met, again-more, again-end}
use Rattle.track_keys.proofs.frames.met_again.Goals as goal

pub repeats-requires : goal.repeats-requires
repeats-requires c = record { all_below = held_below _ _ _ c.requires c.args.chain.now.ends; by_index = held-once _ _ _ c.requires c.args.chain.now.ends }

pub returns-then-not-repeats : goal.returns-then-not-repeats
returns-then-not-repeats c = rw c.repeats.ensures.sorted.as_many (held-apart _ _ _ c.requires c.first_frame-first.ensures c.repeats.result c.repeats.ensures.repeats c.if-not-repeats.true)

pub loop-i-init : goal.loop-i-init
loop-i-init c = again-starts c.args.chain.now.ends c.requires c.repeats.ensures.sorted

pub frame_at-frame-requires : goal.frame_at-frame-requires
frame_at-frame-requires c =
    let t = turn c.positions.ensures c.enumerate-i-items.ensures.source c.enumerate-i-items.ensures.count c.into_iter-i-iterator.ensures.into_iter_gives c.loop-i.yielded c.loop-i.i-iterator c.loop-i.yielded_by c.next.result c.next.new.self c.next.ensures.steps c.in-Some.is in
    turn-below c.args.chain.now.ends t

pub returns-then-frame-first : goal.returns-then-frame-first
returns-then-frame-first c =
    let t = turn c.positions.ensures c.enumerate-i-items.ensures.source c.enumerate-i-items.ensures.count c.into_iter-i-iterator.ensures.into_iter_gives c.loop-i.yielded c.loop-i.i-iterator c.loop-i.yielded_by c.next.result c.next.new.self c.next.ensures.steps c.in-Some.is in
    let here = chain-frame _ _ _ t c.frame_at-frame.ensures in
    let front : length c.loop-i.yielded < length c.args.list.now = omega (arith, t.inside, ap length c.requires) in
    rw t.number (again-first c.args.chain.now.ends c.requires c.repeats.ensures.sorted c.loop-i.invariant front here c.first_frame-first.ensures c.if-frame-first.true)

pub meet-requires-clause-numbers_rise : goal.meet-requires-clause-numbers_rise
meet-requires-clause-numbers_rise c = again-rise c.args.chain.now.ends c.requires c.repeats.ensures.sorted c.loop-i.invariant

pub returns-then-meet : goal.returns-then-meet
returns-then-meet c =
    let t = turn c.positions.ensures c.enumerate-i-items.ensures.source c.enumerate-i-items.ensures.count c.into_iter-i-iterator.ensures.into_iter_gives c.loop-i.yielded c.loop-i.i-iterator c.loop-i.yielded_by c.next.result c.next.new.self c.next.ensures.steps c.in-Some.is in
    let here = chain-frame _ _ _ t c.frame_at-frame.ensures in
    let front : length c.loop-i.yielded < length c.args.list.now = omega (arith, t.inside, ap length c.requires) in
    rw t.number (again-met c.args.chain.now.ends c.requires c.repeats.ensures.sorted c.loop-i.invariant front here c.first_frame-first.ensures c.meet.ensures c.if-meet.true)

pub loop-i-preserved : goal.loop-i-preserved
loop-i-preserved c =
    let t = turn c.positions.ensures c.enumerate-i-items.ensures.source c.enumerate-i-items.ensures.count c.into_iter-i-iterator.ensures.into_iter_gives c.loop-i.yielded c.loop-i.i-iterator c.loop-i.yielded_by c.next.result c.next.new.self c.next.ensures.steps c.in-Some.is in
    let here = chain-frame _ _ _ t c.frame_at-frame.ensures in
    let front : length c.loop-i.yielded < length c.args.list.now = omega (arith, t.inside, ap length c.requires) in
    rw (length_push c.loop-i.yielded (c.in-Some.i, c.in-Some.p)) (again-more c.args.chain.now.ends c.requires c.repeats.ensures.sorted c.loop-i.invariant front here c.first_frame-first.ensures c.meet.ensures c.if-frame-first.false c.if-meet.false)

pub returns : goal.returns
returns c =
    let all = turns-end c.positions.ensures c.enumerate-i-items.ensures.source c.enumerate-i-items.ensures.count c.into_iter-i-iterator.ensures.into_iter_gives c.loop-i.yielded c.loop-i.i-iterator c.loop-i.yielded_by c.next.result c.next.new.self c.next.ensures.steps c.in-None.is in
    rw (again-long c.args.chain.now.ends c.requires c.repeats.ensures.sorted c.loop-i.invariant) (again-end c.args.chain.now.ends c.requires c.repeats.ensures.sorted c.loop-i.invariant (all ∙ sym (ap length c.requires)))
