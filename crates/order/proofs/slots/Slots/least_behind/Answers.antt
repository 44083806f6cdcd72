-- A slot right behind an equal number lowers the answer to its position, if that is less; any other slot leaves it. Assumes nothing.
use Rattle.order.proofs.Neighbours.{behind-told, not_behind, pass-over, pass-least}
use Rattle.order.proofs.slots.Slots.least_behind.Goals as goal
use Rattle.order.proofs.slots.Slots.least_behind.Goals.{then-equals_before, else-equals_before}

pub loop-i-preserved : goal.loop-i-preserved
loop-i-preserved c =
    elim c.if-equals_before.branch [
      | then-equals_before w ↦ rw w.least-is (pass-least _ _ _ _ _ _ c.loop-i.invariant (behind-told _ _ _ _ _ c.equals_before.ensures c.loop-i.invariant.started c.loop-i-test.true w.if-equals_before.true) (cc))
      | else-equals_before w ↦ rw w.least-is (pass-over _ _ _ _ _ _ c.loop-i.invariant (λ behind. absurd (not_behind _ _ _ _ _ c.equals_before.ensures w.if-equals_before.false behind)))
    ]
