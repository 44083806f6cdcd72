-- Refused at the first record out of range or whose index is repeated, whichever comes first. Assumes nothing.
use Rattle.std.proofs.Common.{rules}
use Rattle.blocks.proofs.CastSigned.{cast_signed-is}
use Rattle.chains.proofs.Scanned.{scan-repeated, scan-negative, scan-low, scan-passes, scan-refuses, scan-orders}
use Rattle.chains.proofs.scan.scan_any.Goals as goal

pub returns-then-repeated-passed : goal.returns-then-repeated-passed
returns-then-repeated-passed c =
    let repeat = rw c.requires at c.first_repeat-repeated.ensures.first_repeat in
    let refused = scan-repeated _ _ c.in_range-passed.result c.in_range-passed.ensures c.first_repeat-repeated.result repeat c.if-repeated-passed.true c.index_at.ensures (cast_signed-is _ c.cast_signed.type_inv c.cast_signed.ensures) in
    record { result_value = refused; ordered = scan-refuses _ _ _ refused _ }

pub returns-then-index-lt0 : goal.returns-then-index-lt0
returns-then-index-lt0 c =
    let repeat = rw c.requires at c.first_repeat-repeated.ensures.first_repeat in
    let refused = scan-negative _ _ c.in_range-passed.result c.in_range-passed.ensures c.first_repeat-repeated.result repeat c.if-repeated-passed.false c.if-passed-records.true c.index_at-then-passed-records.ensures (cast_signed-is _ c.cast_signed-index.type_inv c.cast_signed-index.ensures) (search rules) in
    record { result_value = refused; ordered = scan-refuses _ _ _ refused _ }

pub returns-then-passed-records : goal.returns-then-passed-records
returns-then-passed-records c =
    let repeat = rw c.requires at c.first_repeat-repeated.ensures.first_repeat in
    let refused = scan-low _ _ c.in_range-passed.result c.in_range-passed.ensures c.first_repeat-repeated.result repeat c.if-repeated-passed.false c.if-passed-records.true c.index_at-then-passed-records.ensures (cast_signed-is _ c.cast_signed-index.type_inv c.cast_signed-index.ensures) (search rules) in
    record { result_value = refused; ordered = scan-refuses _ _ _ refused _ }

pub returns : goal.returns
returns c =
    let repeat = rw c.requires at c.first_repeat-repeated.ensures.first_repeat in
    record { result_value = scan-passes _ _ c.in_range-passed.result c.in_range-passed.ensures c.first_repeat-repeated.result repeat c.if-repeated-passed.false c.if-passed-records.false; ordered = scan-orders _ _ c.args.records.now.fits _ (rw c.requires at c.first_repeat-repeated.ensures.sorted) }
