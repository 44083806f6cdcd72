-- std's `any` over the list tests each position as `member` does, with the two sides of the equation exchanged. Assumes nothing.
use Rattle.std.proofs.Common.{◌∙◌, rules}
use borrow.Author.Tests.{tests}
use Rattle.std.proofs.lemmas.Iterator.{YieldsList-from_slice}
use Rattle.std.proofs.lemmas.Iterator.Search.{any_from_yields_List}
use lib.Dec.{eqb}
use Rattle.chains.proofs.Going.{member-any}
use Rattle.chains.proofs.walk.listed.Goals as goal

pub returns : goal.returns
returns c = any_from_yields_List (λ q. eqb q c.args.position) _ _ _ c.any.ensures.ran (YieldsList-from_slice c.args.list.now cc) (λ x b q k. search (rules, tests)) ∙ member-any c.args.position c.args.list.now
