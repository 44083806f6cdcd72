-- The payload of a record that is answered stands whole in the section (specs/WholePayload): it is what is between the base and the
-- record's end, and the items of a record that was read end within the bytes. Assumes nothing.
use Prim.Native.Nat.{ℕ, ◌+◌, ◌-◌, ◌≤◌}
use native.Mathlib.Omega.{arith}
use mathlib.Core.Bool.{Bool, true, false}
use mathlib.Core.List.{List, [], ◌∷◌}
use mathlib.Core.Path.{◌≡◌, refl, sym, ap, subst, ◌∙◌}
use lib.ListN as list
use lib.ListN.{length, take, drop, length-drop}
use lib.Seq.{length-take-le}
use Rattle.layout.specs.Walk.{Walk, fine, refused, Reader, ◌>>=◌, block, items, answered, entry_of}
use Rattle.layout.specs.Records.{base, initial, additional, size}
use Rattle.layout.proofs.Inversion.{came, item-fits}
use Rattle.layout.proofs.Walks.{Walks, end as ended}
use Rattle.records.specs.Base.{base_bits, span_of}
use Rattle.records.specs.declared.base.BaseBits.{BaseBits}
use Rattle.records.specs.declared.base.Span.{Span}
use Rattle.records.proofs.Facts.{payload-next}
use Rattle.records.proofs.Table.{initial-base-walks, additional-base-walks}
use Rattle.clip.proofs.Facts.{items-end}
use Rattle.entry_laws.specs.WholePayload.{WholePayload}
use Rattle.entry_laws.proofs.Entries.{ReadAt, read_at}

-- How many bytes a record has in front of its payload, and the items of a record with these behind its base.
abbrev pub front : Bool → ℕ
front true = 16
front false = 12

abbrev pub record-items : Bool → List ℕ → List ℕ
record-items true rest = additional rest
record-items false rest = initial rest

pub ends_as : {A : Type 0} (m : Reader A) (widths : List ℕ) → Walks m widths → (s : List ℕ) (at : ℕ) (a : A) (to : ℕ) → m s at ≡ fine a to → items widths s at ≡ fine tt to
ends_as {A} m widths walks s at a to e = sym (walks.same s at) ∙ ap (λ (w : Walk A). ended w) e

base-ends : (include_index : Bool) (s : List ℕ) (at : ℕ) (b : BaseBits) (to : ℕ) → base_bits include_index s at ≡ fine b to → to ≡ at + front include_index
unfolding size
base-ends true s at b to e = items-end (4 ∷ base) s at to (ends_as _ _ additional-base-walks s at b to e)
base-ends false s at b to e = items-end base s at to (ends_as _ _ initial-base-walks s at b to e)

-- A record whose fields behind the base are read by `rest`, which keeps the base.
module _ {Bits : Type 0} (s : List ℕ) (rest : BaseBits → Reader Bits) (base-of : Bits → BaseBits) (keeps : (b : BaseBits) (i : ℕ) (v : Bits) (next : ℕ) → rest b s i ≡ fine v next → b ≡ base-of v) where
  pub payload-at : (include_index : Bool) (at : ℕ) (v : Bits) (to : ℕ) → ◌>>=◌ (base_bits include_index) rest s at ≡ fine v to → (base-of v).payload_offset ≡ at + front include_index
  payload-at include_index at v to e =
      let b = came (base_bits include_index s at) _ v to e in
      sym (ap (λ (v : BaseBits). v.payload_offset) (keeps b.value b.at v to b.rest))
      ∙ payload-next include_index s at b.value b.at b.first
      ∙ base-ends include_index s at b.value b.at b.first

-- What is read ends within the bytes.
items-within : (width : ℕ) (widths s : List ℕ) (at to : ℕ) → items (width ∷ widths) s at ≡ fine tt to → to ≤ length s
unfolding items size
items-within width [] s at to e =
    let c = came (block width s at) _ tt to e in
    let fits = item-fits width _ s at _ c.at c.first in
    let end = items-end (width ∷ []) s at to e in
    omega (arith, fits, end)
items-within width (next ∷ widths) s at to e =
    let c = came (block width s at) _ tt to e in items-within next widths s c.at to c.rest

-- The items of a record.
pub sized : (include_index : Bool) (ws : List ℕ) → size (record-items include_index ws) ≡ front include_index + size ws
unfolding size
sized true ws = omega arith
sized false ws = omega arith

pub some-items : (include_index : Bool) (ws s : List ℕ) (at to : ℕ) → items (record-items include_index ws) s at ≡ fine tt to → to ≤ length s
some-items true ws s at to e = items-within 4 _ s at to e
some-items false ws s at to e = items-within 4 _ s at to e

-- A part of the bytes up to `to`.
part_length : (s : List ℕ) (from to : ℕ) → from ≤ to → to ≤ length s → length (take (to - from) (drop from s)) ≡ to - from
part_length s from to low high = length-take-le (to - from) (drop from s) (omega (arith, length-drop from s))

-- What a call answered of was found, and read where it was found.
pub record Met {M A B : Type 0} (s : List ℕ) (bits : M → Reader A) (summary : M → ℕ → A → ℕ → B) (b : B) : Type 0 where
  pub model : M
  pub at : ℕ
  pub read : ReadAt s at (bits model) (summary model) b

pub met : {M A B : Type 0} (found : Walk M) (bits : M → Reader A) (summary : M → ℕ → A → ℕ → B) (s : List ℕ) (b : B) → entry_of found bits summary s ≡ answered b → Met s bits summary b
unfolding entry_of
met (fine m at) bits summary s b e = record { model = m; at = at; read = read_at (fine m at) bits summary s m at refl b e }
met (refused why) bits summary s b e = absurd (let z : ◌≡◌ {A = ℕ} 0 1 = cc in omega arith)

-- One kind of record: the items behind its base, whatever section it stands in.
module _ {M Bits B : Type 0} (include_index : Bool) (rest : M → List ℕ) (bits : M → Reader Bits) (base-of : Bits → BaseBits) (summary : M → ℕ → Bits → ℕ → B) (Span-of : B → Span) (s : List ℕ) (walks : (m : M) → Walks (bits m) (record-items include_index (rest m))) (payloads : (m : M) (at : ℕ) (v : Bits) (to : ℕ) → bits m s at ≡ fine v to → (base-of v).payload_offset ≡ at + front include_index) (spans : (m : M) (at : ℕ) (v : Bits) (to : ℕ) → Span-of (summary m at v to) ≡ span_of at (base-of v).payload_offset to) where
  -- The payload from its offset to the record's end, which is within the bytes.
  pub record Payload (b : B) : Type 0 where
    pub model : M
    pub to : ℕ
    pub length : (Span-of b).payload_byte_length ≡ to - (Span-of b).payload_offset
    pub items : (Span-of b).payload_offset + size (rest model) ≡ to
    pub within : to ≤ list.length s

  pub payload : (found : Walk M) (b : B) → entry_of found bits summary s ≡ answered b → Payload b
  unfolding span_of
  payload found b e =
      let m = met found bits summary s b e in
      let r = m.read in
      let all = ends_as _ _ (walks m.model) s m.at r.value r.end r.reads in
      let to = items-end _ s m.at r.end all in
      let from = payloads m.model m.at r.value r.end r.reads in
      let span = spans m.model m.at r.value r.end in
      subst Payload r.is
      (record {
        model = m.model;
        to = r.end;
        length = ap (λ (p : Span). p.payload_byte_length) span ∙ ap (λ (n : ℕ). r.end - n) (sym (ap (λ (p : Span). p.payload_offset) span));
        items = ap (λ (n : ℕ). n + size (rest m.model)) (ap (λ (p : Span). p.payload_offset) span ∙ from) ∙ omega (arith, to, sized include_index (rest m.model));
        within = some-items include_index (rest m.model) s m.at r.end all;
      })

  pub payload-held : (found : Walk M) → WholePayload s Span-of (entry_of found bits summary s)
  payload-held found = record {
    whole = λ b e.
        let p = payload found b e in
        rw e (ap (λ (n : ℕ). list.length (take n (drop (Span-of b).payload_offset s))) p.length ∙ part_length s (Span-of b).payload_offset p.to (omega (arith, p.items)) p.within ∙ sym p.length);
  }
