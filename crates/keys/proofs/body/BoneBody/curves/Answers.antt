-- Each byte is clamped. Assumes nothing.
use Rattle.keys.proofs.Clamping.{four}
use Rattle.keys.proofs.body.BoneBody.curves.Goals as goal

pub returns : goal.returns
returns c =
    rw c.curves_at.ensures at
    (four
    (four c.min.ensures c.min-2.ensures c.min-3.ensures c.min-4.ensures)
    (four c.min-5.ensures c.min-6.ensures c.min-7.ensures c.min-8.ensures)
    (four c.min-9.ensures c.min-10.ensures c.min-11.ensures c.min-12.ensures)
    (four c.min-13.ensures c.min-14.ensures c.min-15.ensures c.min-16.ensures))
