use Rattle.std.proofs.Common.{arith}
use Rattle.strip_reader.proofs.KeysPassed.{begins, more, stops, finishes}
use Rattle.strip_reader.proofs.pass.pass_keys.Goals as goal

pub keys-init : goal.keys-init
keys-init c = begins _ _ _ _

pub returns-in-Err : goal.returns-in-Err
returns-in-Err c = stops _ _ _ _ _ _ _ _ c.keys.invariant (omega (arith, c.keys-test.true)) c.in-Err.why c.in-Err.ensures

pub keys-preserved : goal.keys-preserved
keys-preserved c = rw (c.from.ensures, c.from-least.ensures) (more _ _ _ _ _ _ _ _ c.keys.invariant (omega (arith, c.keys-test.true)) c.in-Ok.frame c.in-Ok.behind c.in-Ok.ensures)

pub returns : goal.returns
returns c = finishes _ _ _ _ _ _ _ _ c.keys.invariant (omega (arith, c.keys-test.false)) (omega (arith, c.keys.auto.read-end))
