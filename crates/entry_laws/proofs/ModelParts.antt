-- The bools and pairs of a model record that was read: its reading went over both lists, so each entry of them, behind those before it, was
-- whole and is read again; a number that no entry has is 19. Assumes nothing.
use Prim.Native.Nat.{ℕ, ◌<◌}
use mathlib.Core.Bool.{Bool}
use mathlib.Core.List.{List}
use mathlib.Core.Path.{◌≡◌, refl, ap, subst, ◌∙◌}
use borrow.Author.Tests.{lt-ltb, le-ltb}
use Rattle.layout.specs.Walk.{Walk, fine, Reader, after, bool, times, items}
use Rattle.layout.specs.Records.{constraint_state, pair}
use Rattle.layout.proofs.Inversion.{Reads, came, same-value}
use Rattle.layout.proofs.Walks.{Walks, walks-read, walks-bool}
use Rattle.binary.specs.Groups.{u32s}
use Rattle.records.proofs.Table.{u32s-walks}
use Rattle.records.specs.Base.{base_bits}
use Rattle.records.specs.Keyframes.{model_bits}
use Rattle.records.specs.declared.model.ModelBits.{ModelBits}
use Rattle.entries.specs.Lists.{listed, entry_at}
use Rattle.entries.specs.ModelLists.{flag_bits, pair_bits}
use Rattle.entry_laws.proofs.Whole.{EntryRead, behind}

-- Both lists of the record were read, from where its bits say that they stand.
record ListsRead (constraints parents : ℕ) (s : List ℕ) (b : ModelBits) : Type 0 where
  pub flags_end : ℕ
  pub flags : times constraints (items constraint_state) s b.constraint_states_offset ≡ fine tt flags_end
  pub pairs_end : ℕ
  pub pairs : times parents (items pair) s b.outside_parent_indices_offset ≡ fine tt pairs_end

lists-read : (include_index : Bool) (constraints parents : ℕ) (s : List ℕ) (at : ℕ) (b : ModelBits) (end : ℕ) → model_bits include_index constraints parents s at ≡ fine b end → ListsRead constraints parents s b
unfolding model_bits
lists-read include_index constraints parents s at b end e =
    let base = came (base_bits include_index s at) _ b end e in
    let visible = came (bool s base.at) _ b end base.rest in
    let flags = came (times constraints (items constraint_state) s visible.at) _ b end visible.rest in
    let pairs = came (times parents (items pair) s flags.at) _ b end flags.rest in
    let shadow = came (bool s pairs.at) _ b end pairs.rest in
    subst (λ (b : ModelBits). ListsRead constraints parents s b) (same-value shadow.rest)
    (record { flags_end = flags.at; flags = flags.first; pairs_end = pairs.at; pairs = pairs.first })

-- Entry k of a list that was read, by a reader of its items.
module _ {A : Type 0} (r : Reader A) (widths : List ℕ) (walks : Walks r widths) (count offset end : ℕ) (s : List ℕ) (was : times count (items widths) s offset ≡ fine tt end) (k : ℕ) where
  unfoldable entry : Walk A
  entry = after (entry_at (listed count offset widths) k s) (λ u p. r s p)

  entry_read : k < count → Reads entry
  unfolding entry entry_at
  entry_read there =
      let b = behind (items widths) count k s offset end there was in
      let c = came (times k (items widths) s offset) _ _ _ b.is in
      let w = walks-read r widths walks s c.at b.to c.rest in
      let at : entry_at (listed count offset widths) k s ≡ times k (items widths) s offset = rw (lt-ltb k count there) refl in
      record { value = w.value; to = b.to; is = ap (λ (w : Walk (Unit {0})). after w (λ u p. r s p)) (at ∙ c.first) ∙ w.is }

  entry-read : EntryRead count k entry
  unfolding entry entry_at
  entry-read = (entry_read, λ past. rw (le-ltb k count past) refl)

module _ (include_index : Bool) (constraints parents : ℕ) (s : List ℕ) (at : ℕ) (b : ModelBits) (end : ℕ) (reads : model_bits include_index constraints parents s at ≡ fine b end) (k : ℕ) where
  lists : ListsRead constraints parents s b
  lists = lists-read include_index constraints parents s at b end reads

  pub flag-read : EntryRead constraints k (flag_bits include_index constraints parents k s at)
  unfolding flag_bits entry
  flag-read = rw reads (entry-read bool constraint_state walks-bool constraints _ _ s lists.flags k)

  pub pair-read : EntryRead parents k (pair_bits include_index constraints parents k s at)
  unfolding pair_bits entry
  pair-read = rw reads (entry-read (u32s 2) pair (u32s-walks 2) parents _ _ s lists.pairs k)
