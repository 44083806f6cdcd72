-- A step along a chain whose records so far are linked, each one's previous link naming the one before. There are fewer of them than there
-- are records, so the chain ends. Assumes nothing.
use Prim.Native.Nat.{ℕ, ◌<◌}
use native.Mathlib.Omega.{arith}
use mathlib.Core.List.{List, [], ◌∷◌, ◌++◌}
use mathlib.Core.Path.{◌≡◌, sym}
use lib.ListN.{length, length-append}
use Rattle.clip.proofs.Indexed.{record_of-found}
use Rattle.clip.proofs.Chained.{Linked}
use Rattle.clip.proofs.Walked.{one_more, few}
use Rattle.blocks.specs.Block.{links}
use Rattle.blocks.specs.declared.block.Block.{Block}
use Rattle.chains.specs.Lookup.{Ordered}
use Rattle.chains.specs.Step.{Reaches}
use Rattle.chains.specs.declared.step.Step.{Step}

module _ {s : List ℕ} {b : Block} {link : ℕ} {step : Step} (to : Reaches s b link step) where
  pub inside : step.position < b.records.count
  inside = (record_of-found (links s b) link step.position (sym to.bears)).0

  -- One record more.
  module _ {slots : List ℕ} (ordered : Ordered s b slots) {track : ℕ} (is-track : track < b.initials.count) (ps : List ℕ) {expected : ℕ} (linked : Linked (links s b) track ((links s b).initial track).next ps expected link) (on : link ≡ 0 → ⊥) (back : ((links s b).at step.position).previous ≡ expected) where
    pub longer : Linked (links s b) track ((links s b).initial track).next (ps ++ step.position ∷ []) link step.next
    longer =
        let found = record_of-found (links s b) link step.position (sym to.bears) in
        rw to.next (one_more (links s b) ps track ((links s b).initial track).next expected link step.position linked on found.0 found.1 back)

    pub room : length ps < b.records.count
    room =
        let most = few (links s b) ordered.indexed track is-track ((links s b).initial track).next (ps ++ step.position ∷ []) link step.next longer in
        omega (arith, most, length-append ps (step.position ∷ []))
