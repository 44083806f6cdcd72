-- Where the indices rise, the scan meets nothing and file order is the order of indices (RisingIndices). Assumes nothing.
use Prim.Native.Nat.{ℕ}
use mathlib.Core.List.{List}
use mathlib.Core.Path.{sym, ap, ◌∙◌, subst}
use Rattle.order.specs.Repeat.{up_to}
use Rattle.chains.specs.Lookup.{Ordered}
use Rattle.chains.proofs.RisingIndices.{rise-passes, rise-orders}
use Rattle.chains.proofs.scan.index_scan.Goals as goal

pub returns-then-rising-clause-result_value : goal.returns-then-rising-clause-result_value
returns-then-rising-clause-result_value c = rise-passes _ _ (c.rising.ensures c.if-rising.true)

pub returns-then-rising-clause-ordered : goal.returns-then-rising-clause-ordered
returns-then-rising-clause-ordered c = λ passes. subst (λ (slots : List ℕ). Ordered c.args.records.now.section.now c.args.records.now.block slots) (sym (c.put_in_file_order.ensures ∙ ap up_to c.requires)) (rise-orders _ _ (c.rising.ensures c.if-rising.true) c.args.records.now.fits)
