-- The strip is written in four pieces, one behind the other: the two counts, the bones' tracks and the morphs'. A piece written behind what
-- is written so far leaves both, and room for the strip is room for each (keys, Placing). Assumes nothing.
use Prim.Native.Nat.{ℕ, ◌+◌, ◌≤◌}
use native.Mathlib.Omega.{arith}
use mathlib.Core.List.{List, ◌++◌}
use mathlib.Core.Path.{◌≡◌, ap, ◌∙◌}
use lib.ListN.{length, length-append}
use Rattle.keys.specs.Placed.{placed, Room, Wrote}
use Rattle.keys.proofs.Placing.{length-placed, room-front, room_back, wrote_then, number-wrote}
use Rattle.strip.specs.Numbers.{little_endian}
use Rattle.strip.proofs.Bytes.{length-little_endian}
use Rattle.blocks.specs.declared.block.Block.{Block}
use Rattle.writing.specs.Tracks.{strip_tracks}
use Rattle.strip_call.specs.Bytes.{strip_bytes}

module _ (s : List ℕ) (bones morphs : Block) where
  pub measured : length (strip_bytes s bones morphs) ≡ 4 + length (strip_tracks s bones) + length (strip_tracks s morphs)
  unfolding strip_bytes
  measured =
      let nb = little_endian 2 bones.initials.count in
      let nm = little_endian 2 morphs.initials.count in
      let l1 = length-append (nb ++ nm ++ strip_tracks s bones) (strip_tracks s morphs) in
      let l2 = length-append (nb ++ nm) (strip_tracks s bones) in
      let l3 = length-append nb nm in
      let w1 = length-little_endian 2 bones.initials.count in
      let w2 = length-little_endian 2 morphs.initials.count in
      omega (arith, l1, l2, l3, w1, w2)

  module _ (out₀ : List ℕ) (room : Room 0 (strip_bytes s bones morphs) out₀) {out₁ : List ℕ} (e₁ : out₁ ≡ placed 0 (little_endian 2 bones.initials.count) out₀) where
    wrote₁ : Wrote 0 (little_endian 2 bones.initials.count) out₀ 2 out₁
    wrote₁ = number-wrote 2 0 bones.initials.count out₀ out₁ e₁

    room₂ : Room 0 (little_endian 2 bones.initials.count ++ little_endian 2 morphs.initials.count) out₀
    unfolding strip_bytes
    room₂ = room-front 0 (little_endian 2 bones.initials.count ++ little_endian 2 morphs.initials.count) (strip_tracks s bones) out₀ (room-front 0 (little_endian 2 bones.initials.count ++ little_endian 2 morphs.initials.count ++ strip_tracks s bones) (strip_tracks s morphs) out₀ room)

    pub second_fits : 2 + 2 ≤ length out₁
    second_fits =
        let w = length-little_endian 2 morphs.initials.count in
        let back = room_back 0 (little_endian 2 bones.initials.count) (little_endian 2 morphs.initials.count) out₀ room₂ 2 out₁ wrote₁ in
        omega (arith, w, back)

    module _ {out₂ : List ℕ} (e₂ : out₂ ≡ placed 2 (little_endian 2 morphs.initials.count) out₁) where
      wrote₂ : Wrote 0 (little_endian 2 bones.initials.count ++ little_endian 2 morphs.initials.count) out₀ 4 out₂
      wrote₂ = wrote_then 0 (little_endian 2 bones.initials.count) (little_endian 2 morphs.initials.count) out₀ room₂ 2 out₁ wrote₁ 4 out₂ (number-wrote 2 2 morphs.initials.count out₁ out₂ e₂)

      room₃ : Room 0 (little_endian 2 bones.initials.count ++ little_endian 2 morphs.initials.count ++ strip_tracks s bones) out₀
      unfolding strip_bytes
      room₃ = room-front 0 (little_endian 2 bones.initials.count ++ little_endian 2 morphs.initials.count ++ strip_tracks s bones) (strip_tracks s morphs) out₀ room

      pub bones-fit : Room 4 (strip_tracks s bones) out₂
      bones-fit = room_back 0 (little_endian 2 bones.initials.count ++ little_endian 2 morphs.initials.count) (strip_tracks s bones) out₀ room₃ 4 out₂ wrote₂

      module _ {mid : ℕ} {out₃ : List ℕ} (w₃ : Wrote 4 (strip_tracks s bones) out₂ mid out₃) where
        wrote₃ : Wrote 0 (little_endian 2 bones.initials.count ++ little_endian 2 morphs.initials.count ++ strip_tracks s bones) out₀ mid out₃
        wrote₃ = wrote_then 0 (little_endian 2 bones.initials.count ++ little_endian 2 morphs.initials.count) (strip_tracks s bones) out₀ room₃ 4 out₂ wrote₂ mid out₃ w₃

        pub morphs-fit : Room mid (strip_tracks s morphs) out₃
        unfolding strip_bytes
        morphs-fit = room_back 0 (little_endian 2 bones.initials.count ++ little_endian 2 morphs.initials.count ++ strip_tracks s bones) (strip_tracks s morphs) out₀ room mid out₃ wrote₃

        pub all-written : {end : ℕ} {out₄ : List ℕ} → Wrote mid (strip_tracks s morphs) out₃ end out₄ → Wrote 0 (strip_bytes s bones morphs) out₀ end out₄
        unfolding strip_bytes
        all-written {end} {out₄} w₄ = wrote_then 0 (little_endian 2 bones.initials.count ++ little_endian 2 morphs.initials.count ++ strip_tracks s bones) (strip_tracks s morphs) out₀ room mid out₃ wrote₃ end out₄ w₄

pub wrote-length : {bytes old new : List ℕ} {end : ℕ} → Room 0 bytes old → Wrote 0 bytes old end new → length new ≡ length old
wrote-length {bytes} {old} room w = ap length w.leaves ∙ length-placed 0 bytes old room

pub ruleset pieces = (measured, second_fits, bones-fit, morphs-fit)
