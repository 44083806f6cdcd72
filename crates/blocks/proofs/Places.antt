-- Records stand in the lent bytes: record p ends where the first p + 1 records end, which is within the block. Assumes nothing.
use Prim.Native.Nat.{ℕ, suc, ◌+◌, ◌*◌, ◌≤◌, ◌<◌}
use native.Mathlib.Nat.{suc-mul, mul-le-mul_right}
use native.Mathlib.Omega.{arith}
use mathlib.Core.List.{List}
use lib.ListN.{length}
use Rattle.blocks.specs.Block.{Fits, body_size}
use Rattle.blocks.specs.declared.block.Block.{Block}

place-fits : (first width count p most : ℕ) → p < count → first + count * width ≤ most → first + p * width + width ≤ most
place-fits first width count p most lt fits =
    let more = mul-le-mul_right {m = suc p} {n = count} width lt in
    let one = suc-mul p width in
    omega (arith, more, one)

module _ (s : List ℕ) (b : Block) (fits : Fits s b) where
  pub record-fits : (p : ℕ) → p < b.records.count → b.records.offset + p * b.records.width + (16 + body_size b.kind) ≤ length s
  record-fits p lt =
      let place = place-fits b.records.offset b.records.width b.records.count p (length s) lt fits.records in
      let wide = fits.record_width in
      omega (arith, place, wide)

  pub initial-fits : (t : ℕ) → t < b.initials.count → b.initials.offset + t * b.initials.width + (12 + body_size b.kind) ≤ length s
  initial-fits t lt =
      let place = place-fits b.initials.offset b.initials.width b.initials.count t (length s) lt fits.initials in
      let wide = fits.initial_width in
      omega (arith, place, wide)

pub ruleset places = (record-fits, initial-fits)
