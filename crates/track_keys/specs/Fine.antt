-- Tracks whose keys meet nothing, none of their frames repeated.
use Rattle.std.specs.{Prelude.{ℕ, ◌<◌, false, List, ◌≡◌}, List.{All}}
use Rattle.std.proofs.Math.Option.{none}
use Rattle.clip.specs.{Keys.{Key}, Build.{initial_key, record_key}}
use Rattle.blocks.specs.Block.{links}
use Rattle.chains.specs.Chain.{chain_at}
use Rattle.track_keys.specs.Keys.{key_meets}
use Rattle.blocks.specs.declared.{block.Block.{Block}, kind.Kind.{Kind}}

abbrev pub KeyFine : List ℕ → Kind → ℕ → Key ℕ → Type 0
KeyFine s kind track key = key_meets s kind track key.frame key.body false ≡ none

pub record KeysFine (s : List ℕ) (b : Block) (track : ℕ) : Type 0 where
  pub initial : KeyFine s b.kind track (initial_key ((links s b).initial track))
  pub records : All (λ p. KeyFine s b.kind track (record_key ((links s b).at p))) (chain_at s b track)

-- Those of every track.
abbrev pub AllFine : List ℕ → Block → Type 0
AllFine s b = (track : ℕ) → track < b.initials.count → KeysFine s b track
