-- The positions by rising index (strip, specs/Work): each stands once and their keys rise, and a list is known by that (order, Unique), so
-- it is the one that sorting leaves; and what a search in it finds is the record of an index. Assumes nothing.
use Prim.Native.Nat.{ℕ, zero, suc, ◌+◌, ◌*◌, ◌≤◌, ◌<◌}
use native.Mathlib.Omega.{arith}
use mathlib.Core.Bool.{Bool, true, false, cond}
use mathlib.Core.List.{List, [], ◌∷◌}
use mathlib.Core.Option.{none, some}
use mathlib.Core.Path.{◌≡◌, refl, sym, ◌∙◌, subst}
use borrow.Author.Tests.{ltb-true, ltb-false, lt-ltb, le-ltb, eq-eqb, ne_eqb}
use lib.Dec.{eqb, ltb}
use lib.ListN.{length, get_or}
use Rattle.std.proofs.Common.{Some, None}
use Rattle.order.specs.Field.{number_of, key_of, Within}
use Rattle.order.specs.Field as Order
use Rattle.order.specs.Find.{NumbersRise, Finds}
use Rattle.order.specs.Sorted.{times}
use Rattle.order.proofs.Times.{Place, place_of, equal_or_not}
use Rattle.order.proofs.Unique.{Strictly, strictly-unique}
use Rattle.order.proofs.Laws.{within_block}
use Rattle.clip.specs.Scan.{record_of, Indexed}
use Rattle.clip.specs.First.{given}
use Rattle.clip.specs.Fields.{Records}
use Rattle.clip.specs.Section.{additional_at}
use Rattle.clip.proofs.First.{none_first, none-given}
use Rattle.clip.proofs.Indexed.{of-record}
use Rattle.strip.specs.Work.{inserted, by_index}
use Rattle.blocks.specs.Block.{Fits, links}
use Rattle.blocks.specs.declared.block.Block.{Block}

abbrev one : Bool → ℕ
one b = cond b 1 0

-- A key below every key of a list; keys that rise along a list.
abbrev AllAbove : (ℕ → ℕ) → ℕ → List ℕ → Type 0
AllAbove k x [] = Unit {0}
AllAbove k x (y ∷ ys) = (k x < k y) × AllAbove k x ys

abbrev Rising : (ℕ → ℕ) → List ℕ → Type 0
Rising k [] = Unit {0}
Rising k (x ∷ xs) = AllAbove k x xs × Rising k xs

abbrev Under : ℕ → List ℕ → Type 0
Under n [] = Unit {0}
Under n (x ∷ xs) = (x < n) × Under n xs

above_place : (k : ℕ → ℕ) (x : ℕ) (xs : List ℕ) → AllAbove k x xs → (j : ℕ) → j < length xs → k x < k (get_or xs j 0)
above_place k x [] a j lt = absurd (omega arith)
above_place k x (y ∷ ys) a zero lt = a.0
above_place k x (y ∷ ys) a (suc j) lt = above_place k x ys a.1 j (omega arith)

strictly : (k : ℕ → ℕ) (xs : List ℕ) → Rising k xs → Strictly k xs
strictly k [] r i j lt inside = absurd (omega arith)
strictly k (x ∷ xs) r zero zero lt inside = absurd (omega arith)
strictly k (x ∷ xs) r zero (suc j) lt inside = above_place k x xs r.0 j (omega arith)
strictly k (x ∷ xs) r (suc i) zero lt inside = absurd (omega arith)
strictly k (x ∷ xs) r (suc i) (suc j) lt inside = strictly k xs r.1 i j (omega arith) (omega arith)

module _ {B : Type 0} (r : Records B) where
  key : ℕ → ℕ
  key p = (r.at p).index * 4294967296 + p

  times-inserted : (x p : ℕ) (qs : List ℕ) → times x (inserted r p qs) ≡ times x (p ∷ qs)
  unfolding times inserted
  times-inserted x p [] = refl
  times-inserted x p (q ∷ qs) = go (ltb (r.at p).index (r.at q).index) (times-inserted x p qs)
    where
      go : (b : Bool) → times x (inserted r p qs) ≡ one (eqb x p) + times x qs → times x (cond b (p ∷ q ∷ qs) (q ∷ inserted r p qs)) ≡ one (eqb x p) + (one (eqb x q) + times x qs)
      go true rest = refl
      go false rest = omega (arith, rest)

  pub times-by_index : (x n : ℕ) → times x (by_index r n) ≡ one (ltb x n)
  unfolding by_index times
  times-by_index x zero = rw (le-ltb x 0 (omega arith))
  times-by_index x (suc n) =
      let rest = times-by_index x n in
      let front = times-inserted x n (by_index r n) in
      equal_or_not x n
      (λ e. let out = le-ltb x n (omega (arith, e)) in let last = eq-eqb x n e in let inside = lt-ltb x (suc n) (omega (arith, e)) in front ∙ rw (last, rest, out, inside))
      (λ ne. let same = go ne (ltb x n) refl in front ∙ rw (ne_eqb x n ne, rest) (omega (arith, same)))
    where
      go : (x ≡ n → ⊥) → (b : Bool) → ltb x n ≡ b → one b ≡ one (ltb x (suc n))
      go ne true e = let lt = ltb-true x n e in rw (lt-ltb x (suc n) (omega (arith, lt)))
      go ne false e = let le = ltb-false x n e in rw (le-ltb x (suc n) (omega (arith, le, ne)))

  under-inserted : (m p : ℕ) (qs : List ℕ) → p < m → Under m qs → Under m (inserted r p qs)
  unfolding inserted
  under-inserted m p [] lt u = (lt, tt)
  under-inserted m p (q ∷ qs) lt u = go (ltb (r.at p).index (r.at q).index) (under-inserted m p qs lt u.1)
    where
      go : (b : Bool) → Under m (inserted r p qs) → Under m (cond b (p ∷ q ∷ qs) (q ∷ inserted r p qs))
      go true rest = (lt, u)
      go false rest = (u.0, rest)

  above-inserted : (x p : ℕ) (qs : List ℕ) → key x < key p → AllAbove key x qs → AllAbove key x (inserted r p qs)
  unfolding inserted
  above-inserted x p [] less a = (less, tt)
  above-inserted x p (q ∷ qs) less a = go (ltb (r.at p).index (r.at q).index) (above-inserted x p qs less a.1)
    where
      go : (b : Bool) → AllAbove key x (inserted r p qs) → AllAbove key x (cond b (p ∷ q ∷ qs) (q ∷ inserted r p qs))
      go true rest = (less, a)
      go false rest = (a.0, rest)

  above_more : (x y : ℕ) (qs : List ℕ) → key x < key y → AllAbove key y qs → AllAbove key x qs
  above_more x y [] less a = tt
  above_more x y (q ∷ qs) less a = (let next = a.0 in omega (arith, less, next), above_more x y qs less a.1)

  rising-inserted : (p : ℕ) (qs : List ℕ) → p < 65536 → Under p qs → Rising key qs → Rising key (inserted r p qs)
  unfolding inserted key
  rising-inserted p [] small u rises = (tt, tt)
  rising-inserted p (q ∷ qs) small u rises = go (ltb (r.at p).index (r.at q).index) refl (rising-inserted p qs small u.1 rises.1)
    where
      go : (b : Bool) → ltb (r.at p).index (r.at q).index ≡ b → Rising key (inserted r p qs) → Rising key (cond b (p ∷ q ∷ qs) (q ∷ inserted r p qs))
      go true e rest =
          let lt = ltb-true (r.at p).index (r.at q).index e in
          let less : key p < key q = omega (arith, lt, small) in
          ((less, above_more p q qs less rises.0), rises)
      go false e rest =
          let le = ltb-false (r.at p).index (r.at q).index e in
          let below = u.0 in
          let less : key q < key p = omega (arith, le, below) in
          (above-inserted q p qs less rises.0, rest)

  under_more : (n : ℕ) (qs : List ℕ) → Under n qs → Under (suc n) qs
  under_more n [] u = tt
  under_more n (q ∷ qs) u = (let below = u.0 in omega (arith, below), under_more n qs u.1)

  under-by_index : (n : ℕ) → Under n (by_index r n)
  unfolding by_index
  under-by_index zero = tt
  under-by_index (suc n) = under-inserted (suc n) n (by_index r n) (omega arith) (under_more n (by_index r n) (under-by_index n))

  rising-by_index : (n : ℕ) → n ≤ 65536 → Rising key (by_index r n)
  unfolding by_index
  rising-by_index zero most = tt
  rising-by_index (suc n) most = rising-inserted n (by_index r n) (omega arith) (under-by_index n) (rising-by_index n (omega arith))

under-place : (n : ℕ) (xs : List ℕ) → Under n xs → (i : ℕ) → i < length xs → get_or xs i 0 < n
under-place n [] u i lt = absurd (omega arith)
under-place n (x ∷ xs) u zero lt = u.0
under-place n (x ∷ xs) u (suc i) lt = under-place n xs u.1 i (omega arith)

module _ (s : List ℕ) (b : Block) (fits : Fits s b) where
  pub index-field : Within s b.records
  index-field =
      let wide = fits.record_width in
      let few = fits.few_records in
      within_block s b.records b.records.offset 0 (omega arith) fits.records (omega (arith, wide)) (omega (arith, few))

  pub strictly-by_index : (n : ℕ) → n ≤ 65536 → Strictly (key_of s b.records) (by_index (links s b) n)
  unfolding key_of number_of additional_at key
  strictly-by_index n most = strictly (key (links s b)) (by_index (links s b) n) (rising-by_index (links s b) n most)

  -- Any list of the positions below n by rising keys is this one.
  pub is-by_index : (n : ℕ) (xs : List ℕ) → n ≤ 65536 → ((x : ℕ) → times x xs ≡ one (ltb x n)) → Strictly (key_of s b.records) xs → xs ≡ by_index (links s b) n
  is-by_index n xs most same rises =
      strictly-unique (key_of s b.records) xs (by_index (links s b) n) (λ x. same x ∙ sym (times-by_index (links s b) x n)) rises (strictly-by_index n most)

  module _ (slots : List ℕ) (is : slots ≡ by_index (links s b) b.records.count) where
    pub slots-below : Order.AllBelow b.records.count slots
    slots-below = subst (λ (xs : List ℕ). Order.AllBelow b.records.count xs) (sym is) (under-place b.records.count (by_index (links s b) b.records.count) (under-by_index (links s b) b.records.count))

    pub slots-rise : NumbersRise s b.records slots
    unfolding key_of
    slots-rise =
        let few = fits.few_records in
        subst (λ (xs : List ℕ). NumbersRise s b.records xs) (sym is) (λ i j lt inside.
        let rises = strictly-by_index b.records.count (omega (arith, few)) i j lt inside in
        let low = under-place b.records.count (by_index (links s b) b.records.count) (under-by_index (links s b) b.records.count) j inside in
        omega (arith, rises, low, few))

    -- Every record stands in a slot.
    pub slot_of : (p : ℕ) → p < b.records.count → Place p slots
    slot_of p lt =
        let once = times-by_index (links s b) p b.records.count in
        let inside = lt-ltb p b.records.count lt in
        place_of p slots (subst (λ (xs : List ℕ). 0 < times p xs) (sym is) (rw (once, inside) (omega arith)))

    module _ (x : Indexed (links s b)) (link : ℕ) where
      pub lookup-at : (i : ℕ) → Finds s b.records slots link (Some i) → some (get_or slots i 0) ≡ record_of (links s b) link
      unfolding number_of additional_at
      lookup-at i at = sym (of-record (links s b) x link (get_or slots i 0) (slots-below i at.0) at.1)

      pub lookup_absent : Finds s b.records slots link None → none ≡ record_of (links s b) link
      unfolding number_of additional_at record_of
      lookup_absent none_has =
          sym (none_first b.records.count (λ p. given (eqb ((links s b).at p).index link) p) (λ p lt.
          let at = slot_of p lt in
          none-given _ p (ne_eqb ((links s b).at p).index link (λ same. none_has at.place at.inside (subst (λ (q : ℕ). ((links s b).at q).index ≡ link) (sym at.is) same)))))

pub ruleset lookups = (slots-below, lookup-at, lookup_absent)
