-- The frames of a chain as a field of its records, 4 bytes behind the index: a list that holds the chain has each position once, as the
-- sort asks, and if the sorted list tells of no repeat, no frame of the track is repeated. Assumes nothing.
use Prim.Native.Nat.{ℕ, zero, suc, ◌+◌, ◌≤◌, ◌<◌}
use native.Mathlib.Numerals.{add-one}
use native.Mathlib.Omega.{arith}
use mathlib.Core.Bool.{Bool, true, false, cond, ◌||◌}
use mathlib.Core.List.{List, [], ◌∷◌}
use mathlib.Core.Path.{◌≡◌, refl, sym, ap, ◌∙◌, subst}
use borrow.Author.Tests.{eqb-true}
use lib.Dec.{eqb}
use lib.ListN.{length, get_or}
use Rattle.layout.specs.Walk.{u32_at}
use Rattle.order.specs.declared.field.Field.{Field}
use Rattle.order.specs.Field.{number_of, Within, AllBelow}
use Rattle.order.specs.Sorted.{times}
use Rattle.order.specs.Repeat.{FirstRepeat, Repeats, with_first}
use Rattle.order.proofs.Laws.{within_block}
use Rattle.clip.specs.First.{member}
use Rattle.clip.specs.Section.{additional_at}
use Rattle.clip.proofs.Counting.{Distinct}
use Rattle.blocks.specs.Block.{Fits, links}
use Rattle.chains.specs.Chain.{chain_at, Ends}
use Rattle.chains.proofs.AlongChain.{chain-below}
use Rattle.track_keys.specs.Frames.{frames_at}
use Rattle.blocks.specs.declared.block.Block.{Block}
use Rattle.track_keys.proofs.FirstRepeats.{none-repeated}
use Rattle.track_keys.proofs.Numbered.{Turn}
use Rattle.track_keys.proofs.ListedChain.{chain-distinct}

member-none : (x : ℕ) (ps : List ℕ) → member x ps ≡ false → times x ps ≡ 0
unfolding member times
member-none x [] out = refl
member-none x (p ∷ ps) out = go (eqb x p) out (member-none x ps)
  where
    go : (b : Bool) → (b || member x ps) ≡ false → (member x ps ≡ false → times x ps ≡ 0) → cond b 1 0 + times x ps ≡ 0
    go true out rest = absurd (let z : ◌≡◌ {A = ℕ} 0 1 = cc in omega arith)
    go false out rest = let none = rest out in omega (arith, none)

distinct-once : (x : ℕ) (ps : List ℕ) → Distinct ps → times x ps ≤ 1
unfolding times
distinct-once x [] d = omega arith
distinct-once x (p ∷ ps) d = go (eqb x p) refl (distinct-once x ps d.1)
  where
    go : (b : Bool) → eqb x p ≡ b → times x ps ≤ 1 → cond b 1 0 + times x ps ≤ 1
    go true e rest = let none = member-none x ps (subst (λ k. member k ps ≡ false) (sym (eqb-true x p e)) d.0) in omega (arith, none)
    go false e rest = omega (arith, rest)

-- A frame stands behind its record's index.
abbrev pub frame_field : Block → Field
frame_field b = record { offset = b.records.offset + 4; width = b.records.width; count = b.records.count }

module _ (s : List ℕ) (b : Block) where
  pub frame-field : Fits s b → Within s (frame_field b)
  frame-field fits =
      let wide = fits.record_width in
      let few = fits.few_records in
      within_block s (frame_field b) b.records.offset 4 refl fits.records (omega (arith, wide)) (omega (arith, few))

  pub frame_is : (p : ℕ) → number_of s (frame_field b) p ≡ ((links s b).at p).frame
  unfolding number_of additional_at
  frame_is p = ap (λ (at : ℕ). u32_at s at) (omega arith)

-- The record that stands at a place of the chain.
pub chain-frame : (s : List ℕ) (b : Block) (track : ℕ) {n i p : ℕ} → Turn (chain_at s b track) n i p → {frame : ℕ} → frame ≡ ((links s b).at p).frame → frame ≡ frames_at s b track (n + 1)
chain-frame s b track {n} t is = is ∙ ap (λ (q : ℕ). ((links s b).at q).frame) t.is ∙ ap (frames_at s b track) (sym (add-one n))

pub turn-below : {s : List ℕ} {b : Block} {slots : List ℕ} {track : ℕ} → Ends s b slots track → {n i p : ℕ} → Turn (chain_at s b track) n i p → p < b.records.count
turn-below {b = b} x {n} t = subst (λ (q : ℕ). q < b.records.count) (sym t.is) (chain-below x n t.inside)

-- A list that holds the chain.
module _ (s : List ℕ) (b : Block) (track : ℕ) {list : List ℕ} (held : list ≡ chain_at s b track) where
  module _ {slots : List ℕ} (x : Ends s b slots track) where
    pub held_below : AllBelow b.records.count list
    held_below = rw held (chain-below x)

    pub held-once : (p : ℕ) → times p list ≤ 1
    held-once p = rw held (distinct-once p (chain_at s b track) (chain-distinct x))

  -- No frame is repeated if sorting finds none.
  pub held-apart : {first : ℕ} → first ≡ ((links s b).initial track).frame → (r : Bool) → Repeats (with_first first s (frame_field b) list) (length list + 1) r → r ≡ false → FirstRepeat (frames_at s b track) (length list + 1) (length list + 1)
  held-apart initial true told none = cc
  held-apart {first} initial false apart none =
      none-repeated (frames_at s b track) (length list + 1) (λ i j lt inside e. apart i j lt inside (same i ∙ e ∙ sym (same j)))
    where
      same : (i : ℕ) → with_first first s (frame_field b) list i ≡ frames_at s b track i
      same zero = initial
      same (suc i) = frame_is s b (get_or list i 0) ∙ ap (λ (ps : List ℕ). ((links s b).at (get_or ps i 0)).frame) held
