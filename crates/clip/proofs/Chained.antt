-- A chain without the walk's state: each link is borne by a record, whose previous link names the one before. Such a list has no
-- repeats, and no two tracks share a record of theirs, because a record's previous link names one predecessor and no track number is an
-- index. Assumes nothing.
use Prim.Native.Nat.{ℕ, zero, suc, ◌<◌}
use native.Mathlib.Omega.{arith}
use mathlib.Core.Bool.{Bool, true, false}
use mathlib.Core.List.{List, [], ◌∷◌}
use mathlib.Core.Path.{◌≡◌, refl, sym, ap, ◌∙◌}
use borrow.Author.Tests.{eqb-true}
use lib.Dec.{eqb}
use lib.ListN.{length, get_or}
use Rattle.clip.specs.First.{member}
use Rattle.clip.specs.Fields.{Records}
use Rattle.clip.proofs.First.{contrary, or-true}
use Rattle.clip.proofs.Counting.{Distinct, AllBelow}
use Rattle.clip.specs.Scan.{Indexed}

-- Where a member of a list stands.
pub record Place (p : ℕ) (ps : List ℕ) : Type 0 where
  pub place : ℕ
  pub below : place < length ps
  pub is : get_or ps place 0 ≡ p

pub member-place : (p : ℕ) (ps : List ℕ) → member p ps ≡ true → Place p ps
unfolding member
member-place p [] e = contrary false e refl
member-place p (q ∷ ps) e =
    or-true (eqb p q) (member p ps) e
    (λ here. record { place = 0; below = omega arith; is = sym (eqb-true p q here) })
    (λ later. let at = member-place p ps later in record { place = suc at.place; below = omega (arith, at.below); is = at.is })

-- Lists in which no number stands in two places.
pub distinct : (ps : List ℕ) → ((i j : ℕ) → i < length ps → j < length ps → get_or ps i 0 ≡ get_or ps j 0 → i ≡ j) → Distinct ps
distinct [] h = tt
distinct (p ∷ ps) h =
    (go (member p ps) refl, distinct ps (λ i j li lj e. let s = h (suc i) (suc j) (omega arith) (omega arith) e in omega (arith, s)))
  where
    go : (b : Bool) → member p ps ≡ b → b ≡ false
    go false e = refl
    go true e =
        let at = member-place p ps e in
        absurd (let s = h 0 (suc at.place) (omega arith) (omega (arith, at.below)) (sym at.is) in omega (arith, s))

module _ {B : Type 0} (r : Records B) where
  -- What makes the places of a list of records sure: each record's previous link names the one before, the first one's a track.
  pub record Path (track : ℕ) (ps : List ℕ) : Type 0 where
    pub below : (i : ℕ) → i < length ps → get_or ps i 0 < r.additional
    pub begins : 0 < length ps → (r.at (get_or ps 0 0)).previous ≡ track
    pub goes_on : (i : ℕ) → suc i < length ps → (r.at (get_or ps (suc i) 0)).previous ≡ (r.at (get_or ps i 0)).index

  module _ (x : Indexed r) (t u : ℕ) (is-track : t < r.tracks) (is-track' : u < r.tracks) (ps qs : List ℕ) (c : Path t ps) (d : Path u qs) where
    -- A record that stands in two such lists stands at one place of one track.
    pub one_place : (i j : ℕ) → i < length ps → j < length qs → get_or ps i 0 ≡ get_or qs j 0 → (t ≡ u) × (i ≡ j)
    one_place zero zero li lj e = (sym (c.begins li) ∙ ap (λ p. (r.at p).previous) e ∙ d.begins lj, refl)
    one_place zero (suc j) li lj e =
        let same : t ≡ (r.at (get_or qs j 0)).index = sym (c.begins li) ∙ ap (λ p. (r.at p).previous) e ∙ d.goes_on j lj in
        let high = x.above (get_or qs j 0) (d.below j (omega arith)) in
        absurd (omega (arith, same, high))
    one_place (suc i) zero li lj e =
        let same : u ≡ (r.at (get_or ps i 0)).index = sym (d.begins lj) ∙ ap (λ p. (r.at p).previous) (sym e) ∙ c.goes_on i li in
        let high = x.above (get_or ps i 0) (c.below i (omega arith)) in
        absurd (omega (arith, same, high))
    one_place (suc i) (suc j) li lj e =
        let same : (r.at (get_or ps i 0)).index ≡ (r.at (get_or qs j 0)).index = sym (c.goes_on i li) ∙ ap (λ p. (r.at p).previous) e ∙ d.goes_on j lj in
        let before = x.apart (get_or ps i 0) (get_or qs j 0) (c.below i (omega arith)) (d.below j (omega arith)) same in
        let back = one_place i j (omega arith) (omega arith) before in
        (back.0, ap suc back.1)

  pub path-distinct : Indexed r → (t : ℕ) → t < r.tracks → (ps : List ℕ) → Path t ps → Distinct ps
  path-distinct x t lt ps c = distinct ps (λ i j li lj e. (one_place x t t lt lt ps ps c c i j li lj e).1)

  -- Part of a chain: the index expected as previous link and the link in front of it, and behind it.
  abbrev pub Linked : ℕ → ℕ → List ℕ → ℕ → ℕ → Type 0
  Linked expected link [] expected' link' = (expected ≡ expected') × (link ≡ link')
  Linked expected link (p ∷ ps) expected' link' = (link ≡ 0 → ⊥) × (p < r.additional) × ((r.at p).index ≡ link) × ((r.at p).previous ≡ expected) × Linked link (r.at p).next ps expected' link'

  linked-below : (ps : List ℕ) (e l e' l' : ℕ) → Linked e l ps e' l' → (i : ℕ) → i < length ps → get_or ps i 0 < r.additional
  linked-below [] e l e' l' c i lt = absurd (omega arith)
  linked-below (p ∷ ps) e l e' l' c zero lt = c.1
  linked-below (p ∷ ps) e l e' l' c (suc i) lt = linked-below ps l (r.at p).next e' l' c.4 i (omega arith)

  linked-begins : (ps : List ℕ) (e l e' l' : ℕ) → Linked e l ps e' l' → 0 < length ps → (r.at (get_or ps 0 0)).previous ≡ e
  linked-begins [] e l e' l' c lt = absurd (omega arith)
  linked-begins (p ∷ ps) e l e' l' c lt = c.3

  linked-goes-on : (ps : List ℕ) (e l e' l' : ℕ) → Linked e l ps e' l' → (i : ℕ) → suc i < length ps → (r.at (get_or ps (suc i) 0)).previous ≡ (r.at (get_or ps i 0)).index
  linked-goes-on [] e l e' l' c i lt = absurd (omega arith)
  linked-goes-on (p ∷ ps) e l e' l' c zero lt = linked-begins ps l (r.at p).next e' l' c.4 (omega arith) ∙ sym c.2
  linked-goes-on (p ∷ ps) e l e' l' c (suc i) lt = linked-goes-on ps l (r.at p).next e' l' c.4 i (omega arith)

  pub path : (ps : List ℕ) (e l e' l' : ℕ) → Linked e l ps e' l' → Path e ps
  path ps e l e' l' c = record { below = linked-below ps e l e' l' c; begins = linked-begins ps e l e' l' c; goes_on = linked-goes-on ps e l e' l' c }

  -- The rest of a chain, to its last link, which is 0.
  abbrev pub Chained : ℕ → ℕ → List ℕ → Type 0
  Chained expected link [] = link ≡ 0
  Chained expected link (p ∷ ps) = (link ≡ 0 → ⊥) × (p < r.additional) × ((r.at p).index ≡ link) × ((r.at p).previous ≡ expected) × Chained link (r.at p).next ps

  pub all-below : (ps : List ℕ) (expected link : ℕ) → Chained expected link ps → AllBelow r.additional ps
  all-below [] expected link c = tt
  all-below (p ∷ ps) expected link c = (c.1, all-below ps link (r.at p).next c.4)

  pub opened : (ps : List ℕ) (expected link : ℕ) → Chained expected link ps → (last : ℕ) × Linked expected link ps last 0
  opened [] expected link c = (expected, (refl, c))
  opened (p ∷ ps) expected link c = let rest = opened ps link (r.at p).next c.4 in (rest.0, (c.0, c.1, c.2, c.3, rest.1))

  pub closed : (ps : List ℕ) (expected link last : ℕ) → Linked expected link ps last 0 → Chained expected link ps
  closed [] expected link last c = c.1
  closed (p ∷ ps) expected link last c = (c.0, c.1, c.2, c.3, closed ps link (r.at p).next last c.4)

  chained-path : (ps : List ℕ) (expected link : ℕ) → Chained expected link ps → Path expected ps
  chained-path ps expected link c = let o = opened ps expected link c in path ps expected link o.0 0 o.1

  -- Chains share no record, and a chain has no repeats.
  pub one-track : Indexed r → (t u : ℕ) → t < r.tracks → u < r.tracks → (ps qs : List ℕ) (l k : ℕ) → Chained t l ps → Chained u k qs → (p : ℕ) → member p ps ≡ true → member p qs ≡ true → t ≡ u
  one-track x t u lt lu ps qs l k c d p inp inq =
      let a = member-place p ps inp in
      let b = member-place p qs inq in
      (one_place x t u lt lu ps qs (chained-path ps t l c) (chained-path qs u k d) a.place b.place a.below b.below (a.is ∙ sym b.is)).0

  pub no-repeats : Indexed r → (t : ℕ) → t < r.tracks → (l : ℕ) (ps : List ℕ) → Chained t l ps → Distinct ps
  no-repeats x t lt l ps c = path-distinct x t lt ps (chained-path ps t l c)
