-- An entry of a list by its number. Where the list stands whole in the bytes, entry k stands behind k entries of its size and is whole; a
-- call that reads it there answers. Assumes nothing.
use Prim.Native.Nat.{ℕ, suc, ◌+◌, ◌*◌, ◌≤◌, ◌<◌}
use native.Mathlib.Nat.{mul-le-mul_right, suc-mul}
use native.Mathlib.Omega.{arith}
use mathlib.Core.List.{List, []}
use mathlib.Core.Path.{◌≡◌, refl, sym, ap, ◌∙◌}
use borrow.Author.Tests.{lt-ltb, le-ltb}
use lib.ListN.{length}
use Rattle.layout.specs.Refusals.{absent}
use Rattle.layout.specs.Walk.{Refusal, refusal, Walk, fine, refused, Reader, after, answered, declined, answer, Answers, entry_of}
use Rattle.layout.specs.Records.{size}
use Rattle.layout.proofs.Blocks.{items-whole, times-whole}
use Rattle.layout.proofs.Inversion.{came, same-value}
use Rattle.layout.proofs.Walks.{Read, Walks, walks-read}
use Rattle.entries.specs.Lists.{Listed, entry_at}
use Rattle.entry_laws.specs.ByNumber.{ByNumber}

abbrev pub Stands : List ℕ → Listed → Type 0
Stands s e = e.offset + e.count * size e.widths ≤ length s

abbrev pub place_of : Listed → ℕ → ℕ
place_of e k = e.offset + k * size e.widths

module _ (s : List ℕ) (e : Listed) (stands : Stands s e) (k : ℕ) (there : k < e.count) where
  pub entry-there : entry_at e k s ≡ fine tt (place_of e k)
  unfolding entry_at
  entry-there =
      let less = mul-le-mul_right {m = k} {n = e.count} (size e.widths) (omega (arith, there)) in
      rw (lt-ltb k e.count there, times-whole k e.widths s e.offset (omega (arith, less, stands)))

  pub entry_whole : {A : Type 0} (r : Reader A) → Walks r e.widths → Read (r s (place_of e k)) (place_of e k + size e.widths)
  entry_whole r walks =
      let more = mul-le-mul_right {m = suc k} {n = e.count} (size e.widths) (omega (arith, there)) in
      walks-read r e.widths walks s (place_of e k) _ (items-whole e.widths s (place_of e k) (omega (arith, more, suc-mul k (size e.widths), stands)))

pub entry_past : (s : List ℕ) (e : Listed) (k : ℕ) → e.count ≤ k → entry_at e k s ≡ refused (refusal absent [])
unfolding entry_at
entry_past s e k past = rw (le-ltb k e.count past) refl

-- The entry's bits at an offset, and the summary that is made of them.
pub record ReadAt {A B : Type 0} (s : List ℕ) (at : ℕ) (bits : Reader A) (summary : ℕ → A → ℕ → B) (b : B) : Type 0 where
  pub value : A
  pub end : ℕ
  pub reads : bits s at ≡ fine value end
  pub is : summary at value end ≡ b

-- What a call answers of an entry that is found.
module _ {M A B : Type 0} (found : Walk M) (bits : M → Reader A) (summary : M → ℕ → A → ℕ → B) (s : List ℕ) where
  pub declined-found : (why : Refusal) → found ≡ refused why → entry_of found bits summary s ≡ declined why
  unfolding entry_of
  declined-found why is = rw is refl

  module _ (m : M) (at : ℕ) (is_found : found ≡ fine m at) where
    pub answered-as : (v : A) (to : ℕ) → bits m s at ≡ fine v to → entry_of found bits summary s ≡ answered (summary m at v to)
    unfolding entry_of
    answered-as v to is = rw (is_found, is) refl

    pub answered-by : (v : A) (to : ℕ) → bits m s at ≡ fine v to → Answers (entry_of found bits summary s)
    answered-by v to is = record { value = summary m at v to; is = answered-as v to is }

    pub declined-by : (why : Refusal) → bits m s at ≡ refused why → entry_of found bits summary s ≡ declined why
    unfolding entry_of
    declined-by why is = rw (is_found, is) refl

    pub read_at : (b : B) → entry_of found bits summary s ≡ answered b → ReadAt s at (bits m) (summary m) b
    unfolding entry_of
    read_at b is_b = go (after (bits m s at) made) refl (sym (ap (λ (w : Walk M). entry_of w bits summary s) is_found) ∙ is_b)
      where
        made : A → ℕ → Walk B
        made v to = fine (summary m at v to) to

        go : (w : Walk B) → after (bits m s at) made ≡ w → answer w ≡ answered b → ReadAt s at (bits m) (summary m) b
        go (fine q next) same told =
            let v = came (bits m s at) made q next same in
            let q-is : q ≡ b = cc in
            record { value = v.value; end = v.at; reads = v.first; is = same-value v.rest ∙ q-is }
        go (refused why) same told = absurd (let z : ◌≡◌ {A = ℕ} 0 1 = cc in omega arith)

-- Where the entries of a section are looked for.
abbrev pub Finds : {M : Type 0} → List ℕ → Listed → M → (ℕ → Walk M) → Type 0
Finds s e m found = (k : ℕ) → found k ≡ after (entry_at e k s) (λ u at. fine m at)

module _ {M : Type 0} (s : List ℕ) (e : Listed) (m : M) (found : ℕ → Walk M) (finds : Finds s e m found) where
  pub found-there : Stands s e → (k : ℕ) → k < e.count → found k ≡ fine m (place_of e k)
  found-there stands k there = finds k ∙ ap (λ (w : Walk (Unit {0})). after w (λ u at. fine m at)) (entry-there s e stands k there)

  pub found-past : (k : ℕ) → e.count ≤ k → found k ≡ refused (refusal absent [])
  found-past k past = finds k ∙ ap (λ (w : Walk (Unit {0})). after w (λ u at. fine m at)) (entry_past s e k past)

  pub entries-by-number : Stands s e → {A B : Type 0} (bits : M → Reader A) (summary : M → ℕ → A → ℕ → B) → Walks (bits m) e.widths → ByNumber e.count (λ k. entry_of (found k) bits summary s)
  entries-by-number stands bits summary walks = record {
    below = λ k there.
        let r = entry_whole s e stands k there (bits m) walks in
        answered-by (found k) bits summary s m (place_of e k) (found-there stands k there) r.value _ r.is;
    past = λ k past. declined-found (found k) bits summary s _ (found-past k past);
  }
