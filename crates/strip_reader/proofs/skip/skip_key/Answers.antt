-- Each return by its law in Skips. Assumes nothing.
use Rattle.std.proofs.Common.{◌+◌, arith}
use Rattle.blocks.specs.Kind.{kind_of}
use Rattle.strip_reader.specs.Key.{form_of}
use Rattle.strip_reader.proofs.Skips.{skip-short, skip-unknown, skip-cut, skip-there}
use Rattle.strip_reader.proofs.skip.skip_key.Goals as goal
use Rattle.strip_reader.proofs.skip.skip_key.Goals.{then-strip-at-via-then-strip-at, then-strip-at-via-else-strip-at+then-strip-at-lt-HEAD}

pub returns-then-strip-at : goal.returns-then-strip-at
returns-then-strip-at c =
    skip-short (form_of (kind_of c.args.kind)) c.args.strip.now c.args.at
    (elim c.then-strip-at.branch [ then-strip-at-via-then-strip-at w ↦ omega arith | then-strip-at-via-else-strip-at+then-strip-at-lt-HEAD w ↦ omega arith ])

pub returns-then-known_maps-map : goal.returns-then-known_maps-map
returns-then-known_maps-map c = skip-unknown (form_of (kind_of c.args.kind)) c.args.strip.now c.args.at (omega arith) (omega (arith, c.known_maps.ensures))

pub returns-then-strip-fields : goal.returns-then-strip-fields
returns-then-strip-fields c =
    skip-cut (form_of (kind_of c.args.kind)) c.args.strip.now c.args.at (omega arith) (omega (arith, c.known_maps.ensures)) (omega (arith, c.fields_width-width.ensures))

pub returns : goal.returns
returns c =
    let there = skip-there (form_of (kind_of c.args.kind)) c.args.strip.now c.args.at (c.args.at + 5 + c.fields_width-width.result) (omega arith) (omega (arith, c.known_maps.ensures)) (omega (arith, c.fields_width-width.ensures)) (omega arith) in
    rw c.u32_at.ensures there
