-- A mark of 0 is that of a record that no chain holds (Marking), so a turn counts just such a record, by its two links. Assumes nothing.
use native.Mathlib.Omega.{arith}
use Rattle.std.proofs.Common.{ℕ, List, length, get_or, sym, ap, ◌∙◌}
use Rattle.strip.specs.Work.{track_mark}
use Rattle.blocks.specs.Kind.{kind_of}
use Rattle.blocks.specs.Block.{links}
use Rattle.marks.proofs.Unreached.{starts, passes, takes, leaves}
use Rattle.marks.proofs.Marking.{zero-mark, some-mark}
use Rattle.marks.proofs.Each.{length-each, each_at}
use Rattle.marks.proofs.counts.count.Goals as goal
use Rattle.marks.proofs.counts.count.Goals.{then-mark-eq0+then-unlinked, then-mark-eq0+else-unlinked, else-mark-eq0}

pub loop-p-init : goal.loop-p-init
loop-p-init c = starts

pub loop-p-preserved : goal.loop-p-preserved
loop-p-preserved c =
    let s = c.args.records.now.section.now in
    let b = c.args.records.now.block in
    let zero = zero-mark (kind_of b.kind) (links s b) c.loop-p.p in
    let some = some-mark (kind_of b.kind) (links s b) c.loop-p.p in
    let long = ap length c.requires.marks_value ∙ length-each _ _ in
    let mark = ap (λ (l : List ℕ). get_or l c.loop-p.p 0) c.requires.marks_value ∙ each_at (track_mark (kind_of b.kind) (links s b)) b.records.count c.loop-p.p (omega (arith, long, c.loop-p-test.true)) in
    elim c.if-mark-eq0.branch [
      | then-mark-eq0+then-unlinked w ↦ rw (w.disconnected-is, w.loose-is) (takes c.loop-p.invariant (zero (sym mark ∙ w.if-mark-eq0.true)) (sym w.unlinked.ensures ∙ w.if-unlinked.true))
      | then-mark-eq0+else-unlinked w ↦ rw (w.disconnected-is, w.loose-is) (leaves c.loop-p.invariant (zero (sym mark ∙ w.if-mark-eq0.true)) (sym w.unlinked.ensures ∙ w.if-unlinked.false))
      | else-mark-eq0 w ↦ rw (w.disconnected-is, w.loose-is) (passes c.loop-p.invariant (some (λ e. w.if-mark-eq0.false (mark ∙ e))))
    ]
