-- The key is not refused, and its weight has the record's bytes. Assumes nothing.
use Rattle.std.proofs.Common.{ap, ◌∙◌}
use Rattle.keys.specs.Placed.{morph_key_bytes}
use Rattle.keys.proofs.Weights.{finite-number, record-key}
use Rattle.track_keys.proofs.Accepted.{value-told, no-refusal}
use Rattle.writing.proofs.key.morph_value.Goals as goal

pub unreachable-requires : goal.unreachable-requires
unreachable-requires c = no-refusal c.args.section.now c.args.morph.0 c.args.frame c.args.at c.requires.fine c.in_default.ensures

pub returns : goal.returns
returns c =
    let value = value-told c.args.section.now c.args.morph.0 c.args.frame c.args.at c.requires.fine c.in-Key.ensures in
    record {
      number = finite-number _ value.2;
      bytes = record-key c.args.section.now c.args.at (λ n. (c.type_inv.section n).fits) _ _ value.2 value.1 ∙ ap (morph_key_bytes c.args.section.now c.args.at) value.0;
    }
