-- The tracks before this one meet nothing and are marked (`Tracking`); its own records so far are linked, their frames rise and their keys
-- meet nothing (`Seeing`). Frames that rise are not repeated, so once link 0 ends the chain the track meets nothing. Assumes nothing.
use Prim.Native.Nat.{ℕ, ◌+◌, ◌<◌}
use native.Mathlib.Omega.{arith}
use mathlib.Core.Bool.{Bool, true, false}
use mathlib.Core.List.{List, [], ◌∷◌, ◌++◌}
use mathlib.Core.Option.{none}
use mathlib.Core.Path.{◌≡◌, refl, sym, ap, subst}
use borrow.Author.Tests.{eq-eqb, ne_eqb}
use lib.Dec.{eqb}
use lib.ListN.{length, set, replicate, length-append}
use Rattle.layout.specs.Walk.{answered}
use Rattle.clip.specs.First.{member}
use Rattle.clip.specs.Chain.{chain}
use Rattle.clip.specs.Keys.{key_test}
use Rattle.clip.specs.Build.{record_key, positions, chain_of, reached_before, records_refusal, track_refusal}
use Rattle.clip.proofs.First.{true-or, none_first}
use Rattle.clip.proofs.Chained.{Linked}
use Rattle.clip.proofs.Walked.{walk_ends}
use Rattle.clip.proofs.Shared.{never-shared}
use Rattle.blocks.specs.Kind.{kind_of}
use Rattle.blocks.specs.Block.{links}
use Rattle.blocks.specs.declared.block.Block.{Block}
use Rattle.chains.specs.Lookup.{Ordered}
use Rattle.chains.specs.Chain.{chain_at}
use Rattle.chains.specs.Step.{Reaches}
use Rattle.chains.specs.declared.step.Step.{Step}
use Rattle.chains.proofs.Stepping.{longer, room}
use Rattle.track_keys.specs.Keys.{key_meets}
use Rattle.track_keys.specs.Fine.{KeyFine}
use Rattle.track_keys.specs.Tracks.{test_at, meets, tracks_meet}
use Rattle.track_keys.proofs.Meets.{track-more}
use Rattle.marks.specs.Marks.{marked}
use Rattle.marks.specs.Rising.{Behind, AllMarked}
use Rattle.marks.proofs.Passing.{Passing, no-track, all-tracks, one-track}

marked-snoc : (mark : ℕ) (ps : List ℕ) (p : ℕ) (xs : List ℕ) → marked mark (ps ++ p ∷ []) xs ≡ set (marked mark ps xs) p mark
marked-snoc mark [] p xs = refl
marked-snoc mark (q ∷ ps) p xs = marked-snoc mark ps p (set xs q mark)

module _ (s : List ℕ) (b : Block) (track : ℕ) where
  -- Records whose frames rise from one frame to another, and whose keys meet nothing.
  abbrev pub Fine : ℕ → List ℕ → ℕ → Type 0
  Fine from [] to = from ≡ to
  Fine from (p ∷ ps) to =
      (from < ((links s b).at p).frame)
      × KeyFine s b.kind track (record_key ((links s b).at p))
      × Fine ((links s b).at p).frame ps to

  fine_more : (ps : List ℕ) (from to p expected : ℕ) → Fine from ps to → Behind s b track p expected to → Fine from (ps ++ p ∷ []) ((links s b).at p).frame
  fine_more [] from to p expected f h = (subst (λ (k : ℕ). k < ((links s b).at p).frame) (sym f) h.later, h.fine, refl)
  fine_more (q ∷ ps) from to p expected f h = (f.0, f.1, fine_more ps ((links s b).at q).frame to p expected f.2 h)

  -- No frame behind one is among those before.
  abbrev Upto : ℕ → List ℕ → Type 0
  Upto from before = (frame : ℕ) → from < frame → member frame before ≡ false

  upto-more : (from p : ℕ) (before : List ℕ) → from < ((links s b).at p).frame → Upto from before → Upto ((links s b).at p).frame (((links s b).at p).frame ∷ before)
  unfolding member
  upto-more from p before less u frame later = rw (ne_eqb frame ((links s b).at p).frame (λ e. omega (arith, e, later))) (u frame (omega (arith, less, later)))

  records-pass : (ps : List ℕ) (from to : ℕ) (before : List ℕ) → Fine from ps to → Upto from before → ((p : ℕ) → member p ps ≡ true → reached_before (kind_of b.kind) (links s b) track p ≡ false) → records_refusal (kind_of b.kind) (test_at s b) (links s b) track before ps ≡ none
  unfolding records_refusal key_test member
  records-pass [] from to before f u new = refl
  records-pass (p ∷ ps) from to before f u new =
      let first = new p (rw (eq-eqb p p refl)) in
      let unseen = u ((links s b).at p).frame f.0 in
      let rest = records-pass ps ((links s b).at p).frame to (((links s b).at p).frame ∷ before) f.2 (upto-more from p before f.0 u) (λ q inside. new q (true-or (eqb q p) (member q ps) inside)) in
      rw (first, unseen, f.1, rest)

-- The tracks before one meet nothing, and their records are marked.
pub record Tracking (s : List ℕ) (b : Block) (marks : List ℕ) (reached track : ℕ) (rising : Bool) : Type 0 where
  pub before : tracks_meet s b track ≡ none
  pub passing : Passing s b marks reached track
  pub nothing : rising ≡ true

-- The records so far, linked from the initial record on.
pub record Seeing (s : List ℕ) (b : Block) (track : ℕ) (marks₀ marks : List ℕ) (reached₀ reached expected link frame : ℕ) (rising : Bool) : Type 0 where
  pub seen : List ℕ
  pub linked : Linked (links s b) track ((links s b).initial track).next seen expected link
  pub fine : Fine s b track ((links s b).initial track).frame seen frame
  pub followed : reached ≡ reached₀ + length seen
  pub are : marks ≡ marked (track + 1) seen marks₀
  pub nothing : rising ≡ true

pub begins : (s : List ℕ) (b : Block) (track : ℕ) (marks : List ℕ) (reached : ℕ) {expected link frame : ℕ} {rising : Bool} → expected ≡ track → link ≡ ((links s b).initial track).next → frame ≡ ((links s b).initial track).frame → rising ≡ true → Seeing s b track marks marks reached reached expected link frame rising
begins s b track marks reached ie il if nothing = record { seen = []; linked = (sym ie, sym il); fine = sym if; followed = omega arith; are = refl; nothing = nothing }

pub tracking : (s : List ℕ) (b : Block) {marks : List ℕ} → marks ≡ replicate b.records.count 0 → Tracking s b marks 0 0 true
tracking s b is = record { before = none_first 0 (meets s b) (λ t lt. absurd (omega arith)); passing = no-track is; nothing = refl }

pub all-rise : {s : List ℕ} {b : Block} {marks : List ℕ} {reached track : ℕ} {rising : Bool} → Tracking s b marks reached track rising → track ≡ b.initials.count → AllMarked s b marks reached
all-rise {s} {b} t all =
    let both = all-tracks t.passing all in
    record { passes = subst (λ (k : ℕ). tracks_meet s b k ≡ none) all t.before; followed = both.1; marks = both.0 }

module _ {s : List ℕ} {b : Block} {slots : List ℕ} (ordered : Ordered s b slots) {track : ℕ} (is-track : track < b.initials.count) {marks₀ marks : List ℕ} {reached₀ reached expected link frame : ℕ} {rising : Bool} (g : Seeing s b track marks₀ marks reached₀ reached expected link frame rising) where
  module _ {step : Step} (to : Reaches s b link step) (on : link ≡ 0 → ⊥) (h : Behind s b track step.position expected frame) where
    pub few-seen : reached < reached₀ + b.records.count
    few-seen = let less = room to ordered is-track g.seen g.linked on h.previous in omega (arith, less, g.followed)

    pub goes_on : {later mark : ℕ} → later ≡ ((links s b).at step.position).frame → mark ≡ track + 1 → Seeing s b track marks₀ (set marks step.position mark) reached₀ (reached + 1) link step.next later rising
    goes_on at-frame is-mark =
        record {
          seen = g.seen ++ step.position ∷ [];
          linked = longer to ordered is-track g.seen g.linked on h.previous;
          fine = rw at-frame (fine_more s b track g.seen ((links s b).initial track).frame frame step.position expected g.fine h);
          followed = omega (arith, length-append g.seen (step.position ∷ []), g.followed);
          are = rw (is-mark, g.are) (sym (marked-snoc (track + 1) g.seen step.position marks₀));
          nothing = g.nothing;
        }

  module _ (initial : none ≡ key_meets s b.kind track ((links s b).initial track).frame ((links s b).initial track).body false) (zero_link : link ≡ 0) where
    is-chain : chain (kind_of b.kind) (links s b) track ≡ answered g.seen
    is-chain = walk_ends (kind_of b.kind) (links s b) ordered.indexed track is-track g.seen expected link g.linked zero_link

    seen-all : g.seen ≡ chain_at s b track
    unfolding chain_of
    seen-all = sym (ap positions is-chain)

    passes : meets s b track ≡ none
    unfolding track_refusal key_test member
    passes =
        let rest = records-pass s b track g.seen ((links s b).initial track).frame frame (((links s b).initial track).frame ∷ []) g.fine
        (λ later less. rw (ne_eqb later ((links s b).initial track).frame (λ e. omega (arith, e, less))))
        (λ p inside. never-shared (kind_of b.kind) (links s b) ordered.indexed track is-track p (subst (λ (ps : List ℕ). member p ps ≡ true) seen-all inside)) in
        rw (sym seen-all, is-chain, sym initial) rest

    pub ends : {number : ℕ} → track ≡ number → {rising₀ : Bool} → Tracking s b marks₀ reached₀ number rising₀ → Tracking s b marks reached (number + 1) rising
    ends is t =
        record {
          before = track-more s b _ t.before (rw (sym is) passes);
          passing = one-track ordered t.passing (rw (sym is) is-track) (rw (sym is, sym seen-all) g.are) (rw (sym is, sym seen-all) g.followed);
          nothing = g.nothing;
        }
