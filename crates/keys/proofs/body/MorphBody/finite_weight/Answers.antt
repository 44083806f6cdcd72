-- The bits are found finite before they are a float, and finite bits are no NaN's; the float is that of the body's bytes. Assumes nothing.
use Rattle.std.proofs.Common.{sym, ap, ◌∙◌}
use Rattle.layout.specs.Numbers.{float}
use Rattle.clip.specs.Keys.{finite}
use Rattle.keys.proofs.Bodies.{weight_is}
use Rattle.keys.proofs.Finite.{number-bits}
use Rattle.keys.proofs.body.MorphBody.finite_weight.Goals as goal

pub float_from_bits-result : goal.float_from_bits-result
float_from_bits-result c = number-bits _ (sym c.finite_bits.ensures ∙ c.if-finite_bits.true)

pub returns-then-finite_bits : goal.returns-then-finite_bits
returns-then-finite_bits c =
    let is = ap float c.u32_at-bits.ensures ∙ weight_is c.args.self.now.section.now c.args.self.now.at in
    (is, ap finite (sym is) ∙ sym c.finite_bits.ensures ∙ c.if-finite_bits.true)

pub returns-else-finite_bits : goal.returns-else-finite_bits
returns-else-finite_bits c =
    let is = ap float c.u32_at-bits.ensures ∙ weight_is c.args.self.now.section.now c.args.self.now.at in
    ap finite (sym is) ∙ sym c.finite_bits.ensures ∙ c.if-finite_bits.false
