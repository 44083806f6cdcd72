-- What each answer says in document 01's terms.
use Rattle.std.specs.Prelude.{ℕ, Bool, true, false, ◌≡◌, Float, Result, Ok, Err}
use Rattle.std.specs.Prelude as std
use Rattle.std.proofs.Math.Option.{Option, none, some}
use Rattle.layout.specs.Refusals.{invalid_translation, invalid_orientation}
use Rattle.clip.specs.Keys.{finite}
use Rattle.keys.specs.declared.pose.PoseFault.{PoseFault}

-- The number of the refusal that a pose meets.
abbrev pub asked_read : Result (Unit {0}) PoseFault → Option ℕ
asked_read (Ok v) = none
asked_read (Err PoseFault.Translation) = some invalid_translation
asked_read (Err PoseFault.Orientation) = some invalid_orientation

-- A weight that is finite, or that it is not.
abbrev pub FiniteWeight : Float → std.Option Float → Type 0
FiniteWeight weight (std.Some told) = (told ≡ weight) × (finite weight ≡ true)
FiniteWeight weight std.None = finite weight ≡ false
