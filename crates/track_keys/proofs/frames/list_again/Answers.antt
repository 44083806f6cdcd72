-- Each record of the chain is put in its place. Assumes nothing.
use native.Mathlib.Omega.{arith}
use Rattle.std.proofs.Common.{◌<◌, ◌∙◌, length}
use Rattle.std.proofs.lemmas.List.{length_push}
use Rattle.track_keys.proofs.Numbered.{turn, turns-end}
use Rattle.track_keys.proofs.ChainFrames.{turn-below}
use Rattle.track_keys.proofs.ListedChain.{listed-more, listed-all, chain-few}
use Rattle.track_keys.proofs.frames.list_again.Goals as goal

pub overflow_cast-list : goal.overflow_cast-list
overflow_cast-list c =
    let t = turn c.positions.ensures c.enumerate-i-items.ensures.source c.enumerate-i-items.ensures.count c.into_iter-i-iterator.ensures.into_iter_gives c.loop-i.yielded c.loop-i.i-iterator c.loop-i.yielded_by c.next.result c.next.new.self c.next.ensures.steps c.in-Some.is in
    let below = turn-below c.args.chain.now.ends t in
    omega (arith, below, c.args.chain.now.indexed.records.fits.few_records)

pub bounds-list-i : goal.bounds-list-i
bounds-list-i c =
    let t = turn c.positions.ensures c.enumerate-i-items.ensures.source c.enumerate-i-items.ensures.count c.into_iter-i-iterator.ensures.into_iter_gives c.loop-i.yielded c.loop-i.i-iterator c.loop-i.yielded_by c.next.result c.next.new.self c.next.ensures.steps c.in-Some.is in
    omega (arith, t.inside, t.number, c.requires)

pub offset_bounds-list-i : goal.offset_bounds-list-i
offset_bounds-list-i c =
    let t = turn c.positions.ensures c.enumerate-i-items.ensures.source c.enumerate-i-items.ensures.count c.into_iter-i-iterator.ensures.into_iter_gives c.loop-i.yielded c.loop-i.i-iterator c.loop-i.yielded_by c.next.result c.next.new.self c.next.ensures.steps c.in-Some.is in
    omega (arith, t.inside, t.number, c.requires, chain-few c.args.chain.now.ends)

pub loop-i-preserved : goal.loop-i-preserved
loop-i-preserved c =
    let t = turn c.positions.ensures c.enumerate-i-items.ensures.source c.enumerate-i-items.ensures.count c.into_iter-i-iterator.ensures.into_iter_gives c.loop-i.yielded c.loop-i.i-iterator c.loop-i.yielded_by c.next.result c.next.new.self c.next.ensures.steps c.in-Some.is in
    let inside : length c.loop-i.yielded < length c.loop-i.list = omega (arith, t.inside, c.requires) in
    rw (length_push c.loop-i.yielded (c.in-Some.i, c.in-Some.p), t.number) (listed-more _ _ c.loop-i.invariant inside t.inside t.is)

pub returns : goal.returns
returns c =
    let all = turns-end c.positions.ensures c.enumerate-i-items.ensures.source c.enumerate-i-items.ensures.count c.into_iter-i-iterator.ensures.into_iter_gives c.loop-i.yielded c.loop-i.i-iterator c.loop-i.yielded_by c.next.result c.next.new.self c.next.ensures.steps c.in-None.is in
    listed-all _ _ c.loop-i.invariant all (c.loop-i.auto.list ∙ c.requires)
