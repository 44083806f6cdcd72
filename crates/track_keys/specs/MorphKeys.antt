-- Document 01 (FORMAT, The build): "A morph key is answered as its frame and weight, or as the refusal that it met."
use Rattle.std.specs.Prelude.{ℕ, Bool, List, Float}
use Rattle.std.proofs.Math.Option.{Option, none, some}
use Rattle.layout.specs.Walk.{Refusal, Answer, answered, declined}
use Rattle.clip.specs.{Keys.{float_at}, Section.{morph_body}}
use Rattle.blocks.specs.Fault.{fault_of}
use Rattle.track_keys.specs.Keys.{key_meets}
use Rattle.blocks.specs.declared.kind.Kind.{Kind}
use Rattle.track_keys.specs.declared.key.MorphKey.{MorphKey}

abbrev pub morph_key_read : MorphKey → Answer (ℕ × Float)
morph_key_read (MorphKey.Key frame weight) = answered (frame, weight)
morph_key_read (MorphKey.Refused fault) = declined (fault_of fault)

abbrev pub or_refused : {A : Type 0} → Option Refusal → A → Answer A
or_refused none a = answered a
or_refused (some why) a = declined why

unfoldable pub morph_key : List ℕ → ℕ → ℕ → ℕ → Bool → Answer (ℕ × Float)
morph_key s track frame body repeated = or_refused (key_meets s Kind.Morph track frame body repeated) (frame, float_at (morph_body s body) 0)
