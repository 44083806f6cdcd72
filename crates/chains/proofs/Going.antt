-- The walk along a chain: its first n records stand in the list, linked from the track's initial record on to `link`, and `expected` is the
-- previous link of the next (`Going`). So what ends the walk ends the chain (clip, Walked). Assumes nothing.
use Prim.Native.Nat.{ℕ, ◌+◌, ◌≤◌, ◌<◌}
use native.Mathlib.Numerals.{add-one}
use native.Mathlib.Omega.{arith}
use mathlib.Core.Bool.{Bool, true, false}
use mathlib.Core.List.{List, [], ◌∷◌}
use mathlib.Core.Option.{none}
use mathlib.Core.Path.{◌≡◌, refl, sym, ◌∙◌}
use borrow.Author.Tests.{eqb-true, eqb-false, eq-eqb, ne_eqb}
use Rattle.std.specs.List.{list_any}
use lib.Dec.{eqb}
use lib.ListN.{length, take, set, length-set}
use lib.Seq.{take-suc-set, length-take-le}
use Rattle.layout.specs.Numbers.{signed}
use Rattle.layout.specs.Walk.{answered, declined}
use Rattle.clip.specs.First.{member}
use Rattle.clip.specs.Scan.{record_of}
use Rattle.clip.specs.Chain.{chain}
use Rattle.clip.proofs.Chained.{Linked}
use Rattle.clip.proofs.Walked.{walk_ends, walk-misses, walk-cycles, walk-wrong}
use Rattle.blocks.specs.Kind.{kind_of}
use Rattle.blocks.specs.Track.{number_of_track}
use Rattle.blocks.specs.Block.{TrackOf, links}
use Rattle.blocks.specs.Fault.{fault_of}
use Rattle.blocks.specs.declared.track.TrackIndex.{TrackIndex}
use Rattle.chains.specs.Lookup.{Ordered}
use Rattle.chains.specs.Step.{Reaches}
use Rattle.chains.specs.declared.step.Step.{Step}
use Rattle.chains.proofs.Stepping.{longer, room}
use Rattle.blocks.specs.declared.block.Block.{Block}
use Rattle.blocks.specs.declared.fault.Fault.{Fault}

pub record Going (s : List ℕ) (b : Block) (track : ℕ) (list₀ list : List ℕ) (link expected n : ℕ) : Type 0 where
  pub many : n ≤ b.records.count
  pub same : length list ≡ length list₀
  pub linked : Linked (links s b) track ((links s b).initial track).next (take n list) expected link

pub begins : (s : List ℕ) (b : Block) (track : ℕ) (list : List ℕ) {link : ℕ} → link ≡ ((links s b).initial track).next → Going s b track list list link track 0
begins s b track list is = record { many = omega arith; same = refl; linked = (refl, sym is) }

module _ {s : List ℕ} {b : Block} {slots : List ℕ} (ordered : Ordered s b slots) {track : TrackIndex} (is : TrackOf b track) {list₀ list : List ℕ} {link expected n : ℕ} (g : Going s b (number_of_track track) list₀ list link expected n) where
  abbrev t : ℕ
  t = number_of_track track

  pub ends : link ≡ 0 → answered (take n list) ≡ chain (kind_of b.kind) (links s b) t
  ends zero_link = sym (walk_ends (kind_of b.kind) (links s b) ordered.indexed t is.below (take n list) expected link g.linked zero_link)

  module _ (on : link ≡ 0 → ⊥) where
    pub misses : none ≡ record_of (links s b) link → declined (fault_of (Fault.MissingLink track (signed link))) ≡ chain (kind_of b.kind) (links s b) t
    misses absent = rw is.kind (sym (walk-misses (kind_of b.kind) (links s b) ordered.indexed t is.below (take n list) expected link g.linked on (sym absent)))

    module _ {step : Step} (to : Reaches s b link step) {previous : ℕ} (found : previous ≡ ((links s b).at step.position).previous) where
      pub cycles : true ≡ member step.position (take n list) → declined (fault_of (Fault.Cycle track (signed link))) ≡ chain (kind_of b.kind) (links s b) t
      cycles seen = rw is.kind (sym (walk-cycles (kind_of b.kind) (links s b) ordered.indexed t is.below (take n list) expected link g.linked on step.position (sym to.bears) (sym seen)))

      pub wrong : false ≡ member step.position (take n list) → (previous ≡ expected → ⊥) → declined (fault_of (Fault.WrongPrevious track (signed link) (signed previous) (signed expected))) ≡ chain (kind_of b.kind) (links s b) t
      wrong new other =
          rw (is.kind, found)
          (sym (walk-wrong (kind_of b.kind) (links s b) ordered.indexed t is.below (take n list) expected link g.linked on step.position (sym to.bears) (sym new) (λ e. other (found ∙ e))))

      -- A record more, in a list with room for all.
      module _ (wide : b.records.count ≤ length list₀) (same : previous ≡ expected) where
        pub more_room : n < b.records.count
        more_room =
            let less = room to ordered is.below (take n list) g.linked on (sym found ∙ same) in
            let many = length-take-le n list (omega (arith, g.many, g.same)) in
            omega (arith, less, many)

        pub goes_on : Going s b t list₀ (set list n step.position) step.next link (n + 1)
        goes_on =
            let less = more_room in
            let inside : n < length list = omega (arith, less, g.same) in
            record {
              many = omega (arith, less);
              same = length-set list n step.position ∙ g.same;
              linked = rw (add-one, take-suc-set list n step.position inside) (longer to ordered is.below (take n list) g.linked on (sym found ∙ same));
            }

eqb-sym : (p q : ℕ) → eqb q p ≡ eqb p q
eqb-sym p q = go (eqb p q) refl
  where
    go : (b : Bool) → eqb p q ≡ b → eqb q p ≡ b
    go true e = eq-eqb q p (sym (eqb-true p q e))
    go false e = ne_eqb q p (λ same. eqb-false p q e (sym same))

-- Whether one of a list is the record.
pub member-any : (p : ℕ) (qs : List ℕ) → list_any (λ q. eqb q p) qs ≡ member p qs
unfolding member
member-any p [] = refl
member-any p (q ∷ qs) = rw (eqb-sym p q, member-any p qs)
