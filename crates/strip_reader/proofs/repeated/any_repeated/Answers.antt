-- What a pass tells, and that each begins above the one before. Assumes nothing.
use Rattle.std.proofs.Common.{◌<◌, length, drop, sym, arith}
use Rattle.blocks.specs.Kind.{kind_of}
use Rattle.strip_reader.specs.{Key.{form_of}, Skip.{frames}}
use Rattle.strip_reader.proofs.Passes.{distinct-below-0, told-repeated, told-distinct, told-distinct-below, told-above}
use Rattle.strip_reader.proofs.repeated.any_repeated.Goals as goal

pub passes-init : goal.passes-init
passes-init c = distinct-below-0 (frames (form_of (kind_of c.args.kind)) c.args.count (drop c.args.at c.args.strip.now))

pub returns-in-Repeated : goal.returns-in-Repeated
returns-in-Repeated c =
    sym (told-repeated (length c.passes.space) c.passes.least (frames (form_of (kind_of c.args.kind)) c.args.count (drop c.args.at c.args.strip.now)) c.in-Repeated.ensures)

pub returns-in-Distinct : goal.returns-in-Distinct
returns-in-Distinct c =
    sym (told-distinct (length c.passes.space) c.passes.least (frames (form_of (kind_of c.args.kind)) c.args.count (drop c.args.at c.args.strip.now)) c.passes.invariant c.in-Distinct.ensures)

pub passes-smaller : goal.passes-smaller
passes-smaller c =
    let above : c.passes.least < c.in-DistinctBelow.limit = told-above (length c.passes.space) c.passes.least (frames (form_of (kind_of c.args.kind)) c.args.count (drop c.args.at c.args.strip.now)) c.in-DistinctBelow.limit (omega arith) c.in-DistinctBelow.ensures in
    omega arith

pub passes-preserved : goal.passes-preserved
passes-preserved c =
    told-distinct-below (length c.passes.space) c.passes.least (frames (form_of (kind_of c.args.kind)) c.args.count (drop c.args.at c.args.strip.now)) c.in-DistinctBelow.limit c.passes.invariant c.in-DistinctBelow.ensures
