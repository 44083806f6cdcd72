-- Indices that rise in file order from the kind's count on (`Rising`: the first p do, and are below `least`) are in range, and no two are
-- alike: so the index scan passes, and 0, 1, .. are the positions by rising index. Assumes nothing.
use Prim.Native.Nat.{ℕ, ◌≤◌, ◌<◌}
use native.Mathlib.Omega.{arith}
use mathlib.Core.List.{List}
use mathlib.Core.Option.{none}
use mathlib.Core.Path.{◌≡◌, refl, sym}
use Rattle.order.specs.Field.{number_of, key_of}
use Rattle.order.specs.Repeat.{FirstRepeat, up_to}
use Rattle.order.specs.Sorted.{Sorted}
use Rattle.order.proofs.Counted.{up_to-length, up_to-at}
use Rattle.clip.specs.Scan.{scan}
use Rattle.clip.specs.Section.{additional_at}
use Rattle.blocks.specs.Kind.{kind_of}
use Rattle.blocks.specs.Block.{Fits, links}
use Rattle.chains.specs.Lookup.{Ordered}
use Rattle.chains.specs.Scan.{InRange, IndicesRise}
use Rattle.blocks.specs.declared.block.Block.{Block}
use Rattle.chains.proofs.Scanned.{scan-passes, scan-orders}

module _ (s : List ℕ) (b : Block) where
  abbrev index : ℕ → ℕ
  index p = ((links s b).at p).index

  -- The first p indices rise from the kind's count on, and are below `least`.
  pub record Rising (p least : ℕ) : Type 0 where
    pub most : p ≤ b.records.count
    pub above : (q : ℕ) → q < p → b.initials.count ≤ index q
    pub below : (q : ℕ) → q < p → index q < least
    pub rise : (i j : ℕ) → i < j → j < p → index i < index j
    pub low : b.initials.count ≤ least

  module _ (rises : IndicesRise s b) where
    ranged : InRange s b b.records.count
    ranged = record { most = omega arith; positive = rises.positive; above = rises.above; next = λ more. absurd (omega arith) }

    apart : FirstRepeat (number_of s b.records) b.records.count b.records.count
    unfolding number_of additional_at
    apart = record { most = omega arith; apart = λ i j ij lt same. let less = rises.rise i j ij lt in absurd (omega (arith, less, same)); again = λ more. absurd (omega arith) }

    sorted : Sorted s b.records (up_to b.records.count) (up_to b.records.count)
    unfolding key_of number_of additional_at
    sorted =
        record {
          as_many = refl;
          same = λ x. refl;
          rises = λ i j ij lt.
              let long = up_to-length b.records.count in
              let inside : j < b.records.count = omega (arith, lt, long) in
              let at_i = up_to-at b.records.count i (omega (arith, ij, inside)) in
              let at_j = up_to-at b.records.count j inside in
              let less = rises.rise i j ij inside in
              rw (at_i, at_j) (omega (arith, less, ij));
        }

    pub rise-passes : none ≡ scan (kind_of b.kind) (links s b)
    rise-passes = scan-passes s b b.records.count ranged b.records.count apart (omega arith) (omega arith)

    pub rise-orders : Fits s b → Ordered s b (up_to b.records.count)
    rise-orders fits = scan-orders s b fits (up_to b.records.count) sorted (sym rise-passes)
