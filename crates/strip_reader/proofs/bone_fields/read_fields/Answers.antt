use Rattle.std.proofs.Common.{drop, sym, ap, ◌∙◌, arith}
use Rattle.std.proofs.lemmas.Bool.Decides.{nat_tests}
use Rattle.clip.specs.Fields.{bone}
use Rattle.strip_reader.specs.Key.{form_of, fields}
use Rattle.strip_reader.specs.Reads.{known_fields}
use Rattle.strip_reader.specs.Bone.{standing_fields}
use Rattle.strip_reader.proofs.bone_fields.read_fields.Goals as goal

pub returns-in-0 : goal.returns-in-0
unfolding known_fields fields standing_fields
returns-in-0 c = c.read_standing.ensures ∙ ap (λ map. known_fields (form_of bone) map (drop c.args.at c.args.strip.now)) (sym c.in-0.is)

pub returns-in-1 : goal.returns-in-1
unfolding known_fields fields standing_fields
returns-in-1 c = c.read_standing-in-1.ensures ∙ ap (λ map. known_fields (form_of bone) map (drop c.args.at c.args.strip.now)) (sym c.in-1.is)

pub returns-in-2 : goal.returns-in-2
unfolding known_fields fields standing_fields
returns-in-2 c = c.read_standing-in-2.ensures ∙ ap (λ map. known_fields (form_of bone) map (drop c.args.at c.args.strip.now)) (sym c.in-2.is)

pub returns-in-3 : goal.returns-in-3
unfolding known_fields fields standing_fields
returns-in-3 c = c.read_standing-in-3.ensures ∙ ap (λ map. known_fields (form_of bone) map (drop c.args.at c.args.strip.now)) (sym c.in-3.is)

pub returns-in-4 : goal.returns-in-4
unfolding known_fields fields standing_fields
returns-in-4 c = c.read_standing-in-4.ensures ∙ ap (λ map. known_fields (form_of bone) map (drop c.args.at c.args.strip.now)) (sym c.in-4.is)

pub returns-in-5 : goal.returns-in-5
unfolding known_fields fields standing_fields
returns-in-5 c = c.read_standing-in-5.ensures ∙ ap (λ map. known_fields (form_of bone) map (drop c.args.at c.args.strip.now)) (sym c.in-5.is)

pub returns-in-6 : goal.returns-in-6
unfolding known_fields fields standing_fields
returns-in-6 c = c.read_standing-in-6.ensures ∙ ap (λ map. known_fields (form_of bone) map (drop c.args.at c.args.strip.now)) (sym c.in-6.is)

pub returns-in-7 : goal.returns-in-7
unfolding known_fields fields standing_fields
returns-in-7 c = c.read_standing-in-7.ensures ∙ ap (λ map. known_fields (form_of bone) map (drop c.args.at c.args.strip.now)) (sym c.in-7.is)

pub returns-in-8 : goal.returns-in-8
unfolding known_fields fields standing_fields
returns-in-8 c = c.read_standing-in-8.ensures ∙ ap (λ map. known_fields (form_of bone) map (drop c.args.at c.args.strip.now)) (sym c.in-8.is)

pub returns-in-9 : goal.returns-in-9
unfolding known_fields fields standing_fields
returns-in-9 c = c.read_standing-in-9.ensures ∙ ap (λ map. known_fields (form_of bone) map (drop c.args.at c.args.strip.now)) (sym c.in-9.is)

pub returns-in-10 : goal.returns-in-10
unfolding known_fields fields standing_fields
returns-in-10 c = c.read_standing-in-10.ensures ∙ ap (λ map. known_fields (form_of bone) map (drop c.args.at c.args.strip.now)) (sym c.in-10.is)

pub returns-in-11 : goal.returns-in-11
unfolding known_fields fields standing_fields
returns-in-11 c = c.read_standing-in-11.ensures ∙ ap (λ map. known_fields (form_of bone) map (drop c.args.at c.args.strip.now)) (sym c.in-11.is)

pub returns-in-12 : goal.returns-in-12
unfolding known_fields fields standing_fields
returns-in-12 c = c.read_standing-in-12.ensures ∙ ap (λ map. known_fields (form_of bone) map (drop c.args.at c.args.strip.now)) (sym c.in-12.is)

pub returns-in-13 : goal.returns-in-13
unfolding known_fields fields standing_fields
returns-in-13 c = c.read_standing-in-13.ensures ∙ ap (λ map. known_fields (form_of bone) map (drop c.args.at c.args.strip.now)) (sym c.in-13.is)

pub returns-in-14 : goal.returns-in-14
unfolding known_fields fields standing_fields
returns-in-14 c = c.read_standing-in-14.ensures ∙ ap (λ map. known_fields (form_of bone) map (drop c.args.at c.args.strip.now)) (sym c.in-14.is)

pub returns-in-15 : goal.returns-in-15
unfolding known_fields fields standing_fields
returns-in-15 c = c.read_standing-in-15.ensures ∙ ap (λ map. known_fields (form_of bone) map (drop c.args.at c.args.strip.now)) (sym c.in-15.is)

pub returns-in-16-to-255 : goal.returns-in-16-to-255
unfolding known_fields
returns-in-16-to-255 c = grind (arith, nat_tests)
