-- The tracks before this one meet nothing (`Tracking`), and what this one meets is what its records from i on meet (`Asking`): so the first
-- key that is refused is what is met. A repeated frame is refused, so i stays below the key that has the first one. Assumes nothing.
use Prim.Native.Nat.{ℕ, zero, suc, ◌+◌, ◌≤◌, ◌<◌}
use native.Mathlib.Numerals.{add-one}
use native.Mathlib.Omega.{arith}
use mathlib.Core.Bool.{Bool, true}
use mathlib.Core.List.{List, [], ◌∷◌}
use mathlib.Core.Option.{Option, none, some}
use mathlib.Core.Path.{◌≡◌, refl, sym, ap, ◌∙◌, subst}
use borrow.Author.Tests.{eq-eqb}
use lib.Dec.{eqb}
use lib.IntN.{pos}
use lib.ListN.{length, get_or, take, drop_of_length-le}
use lib.Seq.{length-take-le}
use Rattle.layout.specs.Numbers.{signed, negative}
use Rattle.layout.specs.Walk.{Refusal}
use Rattle.clip.specs.First.{given, ◌or◌}
use Rattle.clip.specs.Fields.{refusal_of}
use Rattle.clip.specs.Keys.{body_refusal}
use Rattle.clip.specs.Build.{records_refusal}
use Rattle.clip.proofs.First.{or-none, none_first}
use Rattle.clip.proofs.Counting.{AllBelow}
use Rattle.clip.proofs.Chained.{all-below}
use Rattle.clip.proofs.Follow.{is-chain}
use Rattle.blocks.specs.Kind.{kind_of}
use Rattle.blocks.specs.Block.{links}
use Rattle.chains.specs.Lookup.{Ordered}
use Rattle.track_keys.specs.Keys.{asked_at, key_meets}
use Rattle.track_keys.specs.Tracks.{meets, tracks_meet, left}
use Rattle.track_keys.specs.Ready.{Keyed}
use Rattle.blocks.specs.declared.block.Block.{Block}
use Rattle.blocks.specs.declared.fault.Fault.{Fault}
use Rattle.std.proofs.Common.{Result, Ok}
use Rattle.track_keys.proofs.Meets.{track-more, record-meets}

-- The tracks so far meet nothing.
pub record Tracking (s : List ℕ) (b : Block) (list₀ list : List ℕ) (met : Result (Unit {0}) Fault) (track : ℕ) : Type 0 where
  pub before : tracks_meet s b track ≡ none
  pub same : length list ≡ length list₀
  pub nothing : met ≡ Ok tt

-- The keys of a track so far meet nothing.
pub record Asking (s : List ℕ) (b : Block) (track : ℕ) (ps : List ℕ) (again i : ℕ) (met : Result (Unit {0}) Fault) : Type 0 where
  pub before : i < again
  pub so_far : meets s b track ≡ left s b track ps i
  pub nothing : met ≡ Ok tt

-- A track whose records stand at the front of the list.
pub record Ready-track (s : List ℕ) (b : Block) (slots : List ℕ) (track : ℕ) (list : List ℕ) (n again : ℕ) : Type 0 where
  pub ordered : Ordered s b slots
  pub is-track : track < b.initials.count
  pub room : b.records.count ≤ length list
  pub keys : Keyed s b track list n again

module _ {s : List ℕ} {b : Block} {slots : List ℕ} {track : ℕ} {list : List ℕ} {n again : ℕ} (k : Ready-track s b slots track list n again) where
  listed-many : length (take n list) ≡ n
  listed-many = length-take-le n list (omega (arith, k.keys.many, k.room))

  below_at : (m : ℕ) (ps : List ℕ) → AllBelow m ps → (i : ℕ) → i < length ps → get_or ps i 0 < m
  below_at m [] all i lt = absurd (omega arith)
  below_at m (p ∷ ps) all zero lt = all.0
  below_at m (p ∷ ps) all (suc i) lt = below_at m ps all.1 i (omega arith)

  pub position-below : (i : ℕ) → i < length (take n list) → get_or (take n list) i 0 < b.records.count
  position-below i lt = below_at b.records.count (take n list) (all-below (links s b) (take n list) track ((links s b).initial track).next (is-chain (kind_of b.kind) (links s b) track (take n list) k.keys.listed)) i lt

  module _ {i : ℕ} (lt : i < length (take n list)) {met : Result (Unit {0}) Fault} (a : Asking s b track (take n list) again i met) where
    abbrev asked : Option Refusal
    asked = key_meets s b.kind track ((links s b).at (get_or (take n list) i 0)).frame ((links s b).at (get_or (take n list) i 0)).body (eqb (i + 1) again)

    meets-here : left s b track (take n list) i ≡ (asked or left s b track (take n list) (suc i))
    meets-here = record-meets s b slots k.ordered track k.is-track n list k.keys.listed (λ j lj. omega (arith, lj, listed-many)) again k.keys.repeat i (omega (arith, lt, listed-many)) a.before

    pub record-refused : {why : Refusal} → some why ≡ asked → meets s b track ≡ some why
    record-refused refused = a.so_far ∙ meets-here ∙ rw (sym refused)

    module _ (fine : none ≡ asked) where
      -- A frame that is repeated is refused.
      not-again : i + 1 ≡ again → ⊥
      not-again same =
          let frame = ((links s b).at (get_or (take n list) i 0)).frame in
          let body = ((links s b).at (get_or (take n list) i 0)).body in
          let told : key_meets s b.kind track frame body true ≡ none =
          subst (λ (x : Bool). key_meets s b.kind track frame body x ≡ none) (eq-eqb (i + 1) again same) (sym fine) in
          let inner : (given true (refusal_of (kind_of b.kind) 11 (pos track ∷ signed frame ∷ [])) or body_refusal (asked_at s b.kind body) track frame) ≡ none =
          (or-none (given (negative frame) (refusal_of (kind_of b.kind) 10 (pos track ∷ signed frame ∷ []))) (given true (refusal_of (kind_of b.kind) 11 (pos track ∷ signed frame ∷ [])) or body_refusal (asked_at s b.kind body) track frame) told).1 in
          let z : ◌≡◌ {A = ℕ} 0 1 = cc in
          omega arith

      pub asking-more : Asking s b track (take n list) again (i + 1) met
      asking-more =
          record {
            before = omega (arith, not-again, a.before);
            so_far = rw add-one (a.so_far ∙ meets-here ∙ rw (sym fine));
            nothing = a.nothing;
          }

  pub tracking-more : {number : ℕ} → track ≡ number → {list₀ list₁ : List ℕ} {i : ℕ} {met met₀ : Result (Unit {0}) Fault} → length (take n list) ≤ i → Asking s b track (take n list) again i met → Tracking s b list₀ list₁ met₀ number → length list ≡ length list₀ → Tracking s b list₀ list met (number + 1)
  unfolding records_refusal
  tracking-more {number} is {i = i} all a t same =
      record {
        before = track-more s b number t.before (ap (meets s b) (sym is) ∙ a.so_far ∙ rw (drop_of_length-le (take n list) {i = i} all));
        same = same;
        nothing = a.nothing;
      }

pub tracking : (s : List ℕ) (b : Block) (list : List ℕ) → Tracking s b list list (Ok tt) 0
tracking s b list = record { before = none_first 0 (meets s b) (λ t lt. absurd (omega arith)); same = refl; nothing = refl }
