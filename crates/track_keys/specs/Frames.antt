-- The frames of a track's keys, and which of them are repeated.
use Rattle.std.specs.Prelude.{ℕ, ◌<◌, ◌≤◌, List}
use Rattle.blocks.specs.{Track.{number_of_track}, Block.{links}}
use Rattle.chains.specs.Chain.{chain_at}
use Rattle.track_keys.specs.Tracks.{frames_of}
use Rattle.blocks.specs.declared.block.Block.{Block}
use Rattle.chains.specs.declared.chain.Chain.{Chain}

abbrev pub frames_at : List ℕ → Block → ℕ → ℕ → ℕ
frames_at s b track = frames_of (links s b) track (chain_at s b track)

abbrev pub chain_frames : Chain → ℕ → ℕ
chain_frames c = frames_at c.indexed.records.section.now c.indexed.records.block (number_of_track c.track)

-- f 0, .., f r rise, of f 0, .., f n.
pub record Rising (f : ℕ → ℕ) (n r : ℕ) : Type 0 where
  pub most : r ≤ n
  pub rises : (i j : ℕ) → i < j → j ≤ r → f i < f j
