-- Every list of a section that was read stands whole in the lent bytes, because what stands behind it does (clip, Facts); and of names that
-- were read one behind the other each was read (`behind`). Assumes nothing.
use Prim.Native.Nat.{ℕ, zero, suc, ◌+◌, ◌*◌, ◌≤◌, ◌<◌}
use native.Mathlib.Omega.{arith}
use mathlib.Core.List.{List, []}
use mathlib.Core.Path.{◌≡◌, ap, ◌∙◌}
use lib.ListN.{length}
use Rattle.layout.specs.Refusals.{absent}
use Rattle.layout.specs.Walk.{Walk, fine, refused, refusal, Reader, after, times}
use Rattle.layout.proofs.Inversion.{Reads, came}
use Rattle.section.specs.declared.limits.Limits.{Limits}
use Rattle.section.specs.declared.keyframes.Keyframes.{Keyframes}
use Rattle.section.specs.declared.model.Model.{Model}
use Rattle.entries.specs.Lists.{entries_of}
use Rattle.entries.specs.declared.lists.SectionList.{SectionList}
use Rattle.clip.proofs.Facts.{Block, Blocks}
use Rattle.entry_laws.proofs.Entries.{Stands}

-- The two blocks of a kind, if what is behind them is within the bytes.
pub block-stands : (tracks initial_size additional_size most at next : ℕ) (k : Keyframes) (room : ℕ) → Block tracks initial_size additional_size most at next k → next ≤ room → (k.initial_offset + tracks * initial_size ≤ room) × (k.offset + k.count * additional_size ≤ room)
block-stands tracks initial_size additional_size most at next k room b within = (omega (arith, b.begins, b.offset, b.ends), omega (arith, b.ends))

module _ (limits : Limits) (s : List ℕ) (m : Model) (b : Blocks limits s m) where
  behind-within : b.behind ≤ length s
  behind-within = omega (arith, b.states.bones, b.states.morphs, b.states.constraints, b.states.parents, b.states.ends, b.whole)

  between-within : b.between ≤ length s
  between-within = omega (arith, b.morphs.offset, b.morphs.ends, b.within)

  pub list-stands : (list : SectionList) → Stands s (entries_of list m)
  unfolding entries_of
  list-stands SectionList.InitialBones = (block-stands _ _ _ _ _ _ _ (length s) b.bones between-within).0
  list-stands SectionList.Bones = (block-stands _ _ _ _ _ _ _ (length s) b.bones between-within).1
  list-stands SectionList.InitialMorphs = (block-stands _ _ _ _ _ _ _ (length s) b.morphs b.within).0
  list-stands SectionList.Morphs = (block-stands _ _ _ _ _ _ _ (length s) b.morphs b.within).1
  list-stands SectionList.InitialModels = (block-stands _ _ _ _ _ _ _ (length s) b.models behind-within).0
  list-stands SectionList.Models = (block-stands _ _ _ _ _ _ _ (length s) b.models behind-within).1
  list-stands SectionList.BoneStates = omega (arith, b.states.morphs, b.states.constraints, b.states.parents, b.states.ends, b.whole)
  list-stands SectionList.MorphStates = omega (arith, b.states.constraints, b.states.parents, b.states.ends, b.whole)
  list-stands SectionList.ConstraintStates = omega (arith, b.states.parents, b.states.ends, b.whole)
  list-stands SectionList.OutsideParentStates = omega (arith, b.states.ends, b.whole)

-- Of a list with so many entries: entry k, which is read if it is there.
abbrev pub EntryRead : {A : Type 0} → ℕ → ℕ → Walk A → Type 0
EntryRead count k w = (k < count → Reads w) × (count ≤ k → w ≡ refused (refusal absent []))

-- Where n were read one behind the other, so was the one behind k of them.
pub behind : {A : Type 0} (r : Reader A) (n k : ℕ) (s : List ℕ) (at end : ℕ) → k < n → times n r s at ≡ fine tt end → Reads (after (times k r s at) (λ u to. r s to))
unfolding times
behind r zero k s at end lt e = absurd (omega arith)
behind r (suc n) zero s at end lt e =
    let c = came (r s at) _ tt end e in
    record { value = c.value; to = c.at; is = c.first }
behind {A} r (suc n) (suc k) s at end lt e =
    let c = came (r s at) _ tt end e in
    let b = behind r n k s c.at end (omega arith) c.rest in
    record { value = b.value; to = b.to; is = ap (λ (w : Walk A). after (after w (λ a to. times k r s to)) (λ u to. r s to)) c.first ∙ b.is }
