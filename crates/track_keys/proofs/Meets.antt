-- What the tracks meet, and what a listed track's keys meet, one by one: as far as the first repeat, a key's frame is repeated exactly if
-- that is its number, and no record is in a track before (clip, Shared), so 9 is left out. Assumes nothing.
use Prim.Native.Nat.{ℕ, zero, suc, ◌+◌, ◌<◌}
use native.Mathlib.Omega.{arith}
use mathlib.Core.Bool.{Bool, true, false}
use mathlib.Core.List.{List, [], ◌∷◌}
use mathlib.Core.Option.{none, some}
use mathlib.Core.Path.{◌≡◌, refl, sym, subst}
use borrow.Author.Tests.{eqb-true, eqb-false, eq-eqb}
use lib.Dec.{eqb}
use lib.ListN.{length, get_or, take}
use Rattle.layout.specs.Walk.{Refusal, declined}
use Rattle.clip.specs.First.{◌or◌, member}
use Rattle.clip.specs.Chain.{chain}
use Rattle.clip.specs.Keys.{key_test}
use Rattle.clip.specs.Build.{track_refusal}
use Rattle.clip.proofs.First.{true-or, first-met, first_more}
use Rattle.clip.proofs.Shared.{never-shared}
use Rattle.blocks.specs.Kind.{kind_of}
use Rattle.blocks.specs.Block.{links}
use Rattle.chains.specs.Lookup.{Ordered}
use Rattle.track_keys.specs.Keys.{asked_at, key_meets}
use Rattle.order.specs.Repeat.{FirstRepeat}
use Rattle.track_keys.specs.Tracks.{meets, tracks_meet, Listed, frames_of, earlier, left}
use Rattle.blocks.specs.declared.block.Block.{Block}
use Rattle.track_keys.proofs.KeysAsked.{repeated-not, repeated-is, one}
use Rattle.track_keys.proofs.ListedChain.{listed-is}

member-place : (ps : List ℕ) (i : ℕ) → i < length ps → member (get_or ps i 0) ps ≡ true
unfolding member
member-place [] i lt = absurd (omega arith)
member-place (p ∷ ps) zero lt = rw (eq-eqb p p refl)
member-place (p ∷ ps) (suc i) lt = true-or (eqb (get_or ps i 0) p) (member (get_or ps i 0) ps) (member-place ps i (omega arith))

module _ (s : List ℕ) (b : Block) where
  pub all_meet : (track : ℕ) (why : Refusal) → track < b.initials.count → tracks_meet s b track ≡ none → meets s b track ≡ some why → some why ≡ tracks_meet s b b.initials.count
  all_meet track why lt before is = sym (first-met b.initials.count (meets s b) track why lt before is)

  pub track-more : (track : ℕ) → tracks_meet s b track ≡ none → meets s b track ≡ none → tracks_meet s b (track + 1) ≡ none
  track-more track before is = first_more track (meets s b) before is

  pub chain-meets : (track : ℕ) (why : Refusal) → chain (kind_of b.kind) (links s b) track ≡ declined why → meets s b track ≡ some why
  unfolding track_refusal
  chain-meets track why is = rw is

  module _ (slots : List ℕ) (ordered : Ordered s b slots) (track : ℕ) (is-track : track < b.initials.count) (n : ℕ) (list : List ℕ) (listed : Listed s b track n list) where
    pub initial-meets : meets s b track ≡ (key_meets s b.kind track ((links s b).initial track).frame ((links s b).initial track).body false or left s b track (take n list) 0)
    unfolding track_refusal key_test member
    initial-meets = rw (← listed-is s b track n list listed, listed)

    module _ (inside : (i : ℕ) → i < n → i < length (take n list)) (again : ℕ) (repeat : FirstRepeat (frames_of (links s b) track (take n list)) (n + 1) again) (i : ℕ) (lt : i < n) (before : i < again) where
      repeated : member (frames_of (links s b) track (take n list) (suc i)) (earlier (frames_of (links s b) track (take n list)) (suc i)) ≡ eqb (i + 1) again
      repeated = go (eqb (i + 1) again) refl
        where
          go : (x : Bool) → eqb (i + 1) again ≡ x → member (frames_of (links s b) track (take n list) (suc i)) (earlier (frames_of (links s b) track (take n list)) (suc i)) ≡ x
          go true e = let same = eqb-true (i + 1) again e in repeated-is (frames_of (links s b) track (take n list)) (n + 1) again (suc i) repeat (omega (arith, same)) (omega (arith, lt))
          go false e = let other = eqb-false (i + 1) again e in repeated-not (frames_of (links s b) track (take n list)) (n + 1) again (suc i) repeat (omega (arith, other, before))

      pub record-meets : left s b track (take n list) i ≡ (key_meets s b.kind track ((links s b).at (get_or (take n list) i 0)).frame ((links s b).at (get_or (take n list) i 0)).body (eqb (i + 1) again) or left s b track (take n list) (suc i))
      unfolding key_test
      record-meets =
          let new = never-shared (kind_of b.kind) (links s b) ordered.indexed track is-track (get_or (take n list) i 0) (subst (λ (l : List ℕ). member (get_or (take n list) i 0) l ≡ true) (listed-is s b track n list listed) (member-place (take n list) i (inside i lt))) in
          let step = one (kind_of b.kind) (asked_at s b.kind) (links s b) track (take n list) i (inside i lt) new in
          rw (sym repeated) step
