use Rattle.strip_reader.proofs.Found.{one-passed, no-more}
use Rattle.strip_reader.proofs.find.skip_keys.Goals as goal

pub returns-in-None : goal.returns-in-None
returns-in-None c = no-more _ _ c.args.at c.args.count c.keys.counter c.keys.next c.keys.invariant c.keys-test.true c.in-None.ensures

pub keys-preserved : goal.keys-preserved
keys-preserved c = one-passed _ _ c.args.at c.keys.counter c.keys.next _ c.in-Some.behind c.keys.invariant c.in-Some.ensures
