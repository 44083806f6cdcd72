use Rattle.std.proofs.Common.{ap, ◌∙◌}
use Rattle.std.specs.List.{slice_get}
use Rattle.layout.specs.Walk.{answered}
use Rattle.blocks.specs.Kind.{kind_of}
use Rattle.strip_reader.specs.Answers.{strip_key, there}
use Rattle.strip_reader.proofs.KeyFound.{key-is, no-refusal}
use Rattle.strip_reader.proofs.key.key_in_track.Goals as goal

pub returns-in-Ok-read_key : goal.returns-in-Ok-read_key
returns-in-Ok-read_key c ks behind stands many =
    key-is _ _ _ _ _ c.skip_keys.result c.if-count-before.false c.skip_keys.ensures c.in-Some.at c.in-Some.is ks behind stands many c.in-Ok-read_key.key _ c.in-Ok-read_key.ensures
    ∙ ap (λ place. there (slice_get ks place) (λ k. answered (strip_key (kind_of c.args.kind) k))) c.in-Ok.ensures.1

pub returns-in-Err : goal.returns-in-Err
returns-in-Err c ks behind stands many = absurd (no-refusal _ _ _ _ _ c.skip_keys.result c.if-count-before.false c.skip_keys.ensures c.in-Some.at c.in-Some.is ks behind stands many c.in-Err.why c.in-Err.ensures)
