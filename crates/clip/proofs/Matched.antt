-- Demand 3 for the records of one kind. Pairing carries the first's chains over to the second, and a track has one chain at most: so an
-- unpaired record is in none and has to be isolated, and where all of them are the second is sound, with the same keys. Assumes nothing.
use Prim.Native.Nat.{ℕ, ◌<◌}
use native.Mathlib.Decide.{ℕ_discrete}
use native.Mathlib.Omega.{arith}
use mathlib.Core.Bool.{Bool, true, false}
use mathlib.Core.List.{List, [], ◌∷◌, map}
use mathlib.Core.Option.{none}
use mathlib.Core.Logic.{◌↔◌}
use mathlib.Core.Path.{◌≡◌, refl, sym, ap, ◌∙◌, subst}
use borrow.Author.Tests.{leb-false, lt-leb, eqb-true, eqb-false, eq-eqb}
use lib.Dec.{eqb}
use Rattle.layout.specs.Numbers.{least_negative}
use Rattle.clip.specs.First.{any, member}
use Rattle.clip.specs.Fields.{Records, Kind}
use Rattle.clip.specs.Keys.{KeyTest}
use Rattle.clip.specs.Build.{record_key, keys, build_refusal}
use Rattle.clip.specs.Matched.{Matched, UnpairedIsolated}
use Rattle.clip.proofs.First.{contrary, or-true, true-or, any-true, any_false}
use Rattle.clip.proofs.Counting.{AllBelow}
use Rattle.clip.specs.Scan.{Indexed}
use Rattle.clip.proofs.Chained.{Chained, all-below}
use Rattle.clip.proofs.Isolated.{isolated}
use Rattle.clip.proofs.Follow.{chain-is, answer-is}
use Rattle.clip.proofs.Sound.{KeysPass, keys_of, Sound, sound, builds, chain-of}

pub member-map : (f : ℕ → ℕ) (p : ℕ) (ps : List ℕ) → member p ps ≡ true → member (f p) (map f ps) ≡ true
unfolding member
member-map f p [] e = contrary false e refl
member-map f p (q ∷ ps) e =
    or-true (eqb p q) (member p ps) e
    (λ here. rw (eq-eqb (f p) (f q) (ap f (eqb-true p q here))))
    (λ later. true-or (eqb (f p) (f q)) (member (f p) (map f ps)) (member-map f p ps later))

-- What a mapped list holds comes from the list.
record From (f : ℕ → ℕ) (n q : ℕ) : Type 0 where
  pub source : ℕ
  pub below : source < n
  pub is : f source ≡ q

map-member : (f : ℕ → ℕ) (n q : ℕ) (ps : List ℕ) → AllBelow n ps → member q (map f ps) ≡ true → From f n q
unfolding member
map-member f n q [] b e = contrary false e refl
map-member f n q (p ∷ ps) b e =
    or-true (eqb q (f p)) (member q (map f ps)) e
    (λ here. record { source = p; below = b.0; is = sym (eqb-true q (f p) here) })
    (λ later. map-member f n q ps b.1 later)

module _ {B : Type 0} (r₁ r₂ : Records B) (m : Matched r₁ r₂) where
  -- A chain of the first is a chain of the second.
  carried : (ps : List ℕ) (expected link : ℕ) → Chained r₁ expected link ps → Chained r₂ expected link (map m.pair ps)
  carried [] expected link c = c
  carried (p ∷ ps) expected link c =
      let same = m.same p c.1 in (
        c.0,
        m.within p c.1,
        sym (ap (λ a. a.index) same) ∙ c.2,
        sym (ap (λ a. a.previous) same) ∙ c.3,
        subst (λ next. Chained r₂ link next (map m.pair ps)) (ap (λ a. a.next) same) (carried ps link (r₁.at p).next c.4),
      )

  same-records : (ps : List ℕ) → AllBelow r₁.additional ps → map (λ p. record_key (r₂.at p)) (map m.pair ps) ≡ map (λ p. record_key (r₁.at p)) ps
  same-records [] b = refl
  same-records (p ∷ ps) b = rw (m.same p b.0, same-records ps b.1)

  same_keys : (t : ℕ) (ps : List ℕ) → t < r₁.tracks → AllBelow r₁.additional ps → keys_of r₂ t (map m.pair ps) ≡ keys_of r₁ t ps
  same_keys t ps lt b = rw (m.initial t lt, same-records ps b)

  -- A record of the second is paired or not.
  split : {P : Type 0} (q : ℕ) → (From m.pair r₁.additional q → P) → (((p : ℕ) → p < r₁.additional → m.pair p ≡ q → ⊥) → P) → P
  split {P} q paired unpaired = go (any r₁.additional (λ p. eqb (m.pair p) q)) refl
    where
      go : (b : Bool) → any r₁.additional (λ p. eqb (m.pair p) q) ≡ b → P
      go true e = let at = any-true (λ p. eqb (m.pair p) q) r₁.additional e in paired (record { source = at.place; below = at.below; is = eqb-true _ _ at.is })
      go false e = unpaired (λ p lt is. eqb-false (m.pair p) q (any_false (λ p. eqb (m.pair p) q) r₁.additional e p lt) is)

  module _ (kind : Kind) (test : KeyTest B) (s₁ : Sound test r₁) where
    -- The chains of the first, as they stand in the second.
    of₂ : ℕ → List ℕ
    of₂ t = map m.pair (s₁.of t)

    chained₂ : (t : ℕ) → t < r₂.tracks → Chained r₂ t (r₂.initial t).next (of₂ t)
    unfolding of₂
    chained₂ t lt₂ =
        let lt : t < r₁.tracks = rw m.tracks lt₂ in
        subst (λ next. Chained r₂ t next (map m.pair (s₁.of t))) (ap (λ i. i.next) (m.initial t lt)) (carried (s₁.of t) t (r₁.initial t).next (s₁.chained t lt))

    unpaired-isolated : Sound test r₂ → UnpairedIsolated m
    unfolding of₂
    unpaired-isolated s₂ q lt unpaired =
        let links = s₂.idle q lt (λ t is. out t is (member q (s₂.of t)) refl) in
        isolated r₂ s₂.indexed q lt links.0 links.1
      where
        out : (t : ℕ) → t < r₂.tracks → (b : Bool) → member q (s₂.of t) ≡ b → b ≡ false
        out t is false e = refl
        out t is true e =
            let lt₁ : t < r₁.tracks = rw m.tracks is in
            let one = chain-is kind r₂ t s₂.indexed is (s₂.of t) (s₂.chained t is) in
            let other = chain-is kind r₂ t s₂.indexed is (of₂ t) (chained₂ t is) in
            let same : s₂.of t ≡ map m.pair (s₁.of t) = answer-is (sym one ∙ other) in
            let inside : member q (map m.pair (s₁.of t)) ≡ true = rw same at e in
            let from = map-member m.pair r₁.additional q (s₁.of t) (all-below r₁ (s₁.of t) t (r₁.initial t).next (s₁.chained t lt₁)) inside in
            absurd (unpaired from.source from.below from.is)

    -- The second's indices are those of the first, and those of idle records.
    indexed₂ : UnpairedIsolated m → Indexed r₂
    indexed₂ idle =
        record {
          positive = λ q lt. split q
              (λ from. let low = s₁.indexed.positive from.source from.below in let e = index_of q from in omega (arith, low, e))
              (λ unpaired. let low = leb-false least_negative (r₂.at q).index (idle q lt unpaired).positive in omega (arith, low));
          above = λ q lt. split q
              (λ from. let high = s₁.indexed.above from.source from.below in let e = index_of q from in let n = m.tracks in omega (arith, high, e, n))
              (λ unpaired. (idle q lt unpaired).above);
          apart = λ q k lq lk e. split q
              (λ from. split k
              (λ from'. sym from.is ∙ ap m.pair (s₁.indexed.apart from.source from'.source from.below from'.below (sym (index_of q from) ∙ e ∙ index_of k from')) ∙ from'.is)
              (λ unpaired. same q k (ℕ_discrete q k) (λ other. (idle k lk unpaired).alone q lq other e)))
              (λ unpaired. same q k (ℕ_discrete q k) (λ other. (idle q lq unpaired).alone k lk (λ back. other (sym back)) (sym e)));
        }
      where
        index_of : (q : ℕ) (from : From m.pair r₁.additional q) → (r₂.at q).index ≡ (r₁.at from.source).index
        index_of q from = subst (λ k. (r₂.at k).index ≡ (r₁.at from.source).index) from.is (sym (ap (λ a. a.index) (m.same from.source from.below)))

        same : (q k : ℕ) → Dec (q ≡ k) → ((q ≡ k → ⊥) → ⊥) → q ≡ k
        same q k (yes e) h = e
        same q k (no ne) h = absurd (h ne)

    idle-sound : UnpairedIsolated m → Sound test r₂
    unfolding of₂
    idle-sound idle =
        record {
          indexed = indexed₂ idle;
          of = of₂;
          chained = chained₂;
          pass = λ t lt₂.
              let lt : t < r₁.tracks = rw m.tracks lt₂ in
              subst (λ ks. KeysPass (test t) [] ks) (sym (same_keys t (s₁.of t) lt (all-below r₁ (s₁.of t) t (r₁.initial t).next (s₁.chained t lt)))) (s₁.pass t lt);
          idle = λ q lt out. split q
              (λ from.
              let same = m.same from.source from.below in
              let links = s₁.idle from.source from.below (λ t is. go q from t (out t (rw m.tracks at is)) (member from.source (s₁.of t)) refl) in
              (subst (λ k. (r₂.at k).previous ≡ 0) from.is (sym (ap (λ a. a.previous) same) ∙ links.0), subst (λ k. (r₂.at k).next ≡ 0) from.is (sym (ap (λ a. a.next) same) ∙ links.1)))
              (λ unpaired. let free = idle q lt unpaired in (free.previous, free.next));
        }
      where
        go : (q : ℕ) (from : From m.pair r₁.additional q) (t : ℕ) → member q (map m.pair (s₁.of t)) ≡ false → (b : Bool) → member from.source (s₁.of t) ≡ b → b ≡ false
        go q from t out false e = refl
        go q from t out true e =
            let inside = member-map m.pair from.source (s₁.of t) e in
            contrary (member q (map m.pair (s₁.of t))) (subst (λ k. member k (map m.pair (s₁.of t)) ≡ true) from.is inside) out

    pub accepted-exactly : (build_refusal kind test r₂ ≡ none) ↔ UnpairedIsolated m
    accepted-exactly = (λ e. unpaired-isolated (sound kind test r₂ e), λ idle. builds kind test r₂ (idle-sound idle))

    -- Each track has the same keys.
    pub same-tracks : Sound test r₂ → (t : ℕ) → t < r₁.tracks → keys kind r₁ t ≡ keys kind r₂ t
    unfolding keys of₂
    same-tracks s₂ t lt =
        let lt₂ : t < r₂.tracks = rw m.tracks at lt in
        let one = chain-of kind test r₁ s₁ t lt in
        let two = chain-of kind test r₂ s₂ t lt₂ in
        let here = chain-is kind r₂ t s₂.indexed lt₂ (s₂.of t) (s₂.chained t lt₂) in
        let there = chain-is kind r₂ t s₂.indexed lt₂ (of₂ t) (chained₂ t lt₂) in
        let same : s₂.of t ≡ map m.pair (s₁.of t) = answer-is (sym here ∙ there) in
        rw (one, two ∙ same) (sym (same_keys t (s₁.of t) lt (all-below r₁ (s₁.of t) t (r₁.initial t).next (s₁.chained t lt))))
