-- In each turn one item more is written, and as many as fit are all that are written. Assumes nothing.
use native.Mathlib.Numerals.{add-one}
use native.Mathlib.Omega.{arith}
use Rattle.std.proofs.Common.{List, ℕ, sym, ap, ◌∙◌, ◌+◌}
use lib.ListN.{set, take}
use Rattle.answer_numbers.specs.Put.{put}
use Rattle.answer_numbers.proofs.Putting.{put-turn, put-fit}
use Rattle.answer_numbers.proofs.put.put.Goals as goal

pub loop-i-preserved : goal.loop-i-preserved
loop-i-preserved g c =
    let at = c.args.at in
    let i = c.loop-i.i in
    let item = c.index-items-i.result in
    let turn = put-turn at i c.args.items.now c.args.slice.now item (omega (arith, c.loop-i-test.true, c.min-fit.ensures)) in
    rw (add-one i)
    (ap (λ (xs : List g.row.T.Denot). set xs (at + i) item) c.loop-i.invariant
    ∙ ap (λ (x : g.row.T.Denot). set (put at (take i c.args.items.now) c.args.slice.now) (at + i) x) c.index-items-i.is
    ∙ sym turn)

pub returns-after-loop-i : goal.returns-after-loop-i
returns-after-loop-i g c =
    c.loop-i.invariant ∙ put-fit c.args.at c.loop-i.i c.args.items.now c.args.slice.now c.if-at-slice.true (omega (arith, c.min-fit.ensures, c.loop-i-test.false, c.loop-i.auto.i-end))
