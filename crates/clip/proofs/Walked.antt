-- What a chain is once a walk has passed some records: these, then what follows (`so_far`), so what ends the walk ends the chain. A record
-- whose previous link is the one expected was not visited before: its only predecessor would have been visited twice. Assumes nothing.
use Prim.Native.Nat.{ℕ, suc, ◌+◌, ◌-◌, ◌≤◌, ◌<◌}
use native.Mathlib.Nat.{suc-add, zero-add}
use native.Mathlib.Omega.{arith}
use mathlib.Core.Bool.{Bool, true, false, ◌||◌}
use mathlib.Core.List.{List, [], ◌∷◌, ◌++◌, reverse_aux}
use mathlib.Core.Option.{none, some}
use mathlib.Core.Path.{◌≡◌, refl, sym, ap, ◌∙◌, subst}
use borrow.Author.Tests.{eq-eqb, ne_eqb}
use lib.Dec.{eqb}
use lib.IntN.{pos}
use lib.ListN.{length, get_or, length-append, get_or-append}
use lib.Seq.{get_or-append_seam}
use Rattle.layout.specs.Refusals.{missing_link, cycle, wrong_previous}
use Rattle.layout.specs.Numbers.{signed}
use Rattle.layout.specs.Walk.{Answer, answered, declined}
use Rattle.clip.specs.First.{member}
use Rattle.clip.specs.Fields.{Records, Kind, refusal_of}
use Rattle.clip.specs.Scan.{record_of, Indexed}
use Rattle.clip.specs.Chain.{with, follow, chain}
use Rattle.clip.proofs.Counting.{Distinct, AllBelow, distinct-length}
use Rattle.clip.proofs.Indexed.{of-record}
use Rattle.clip.proofs.Chained.{member-place, one_place, path-distinct, Linked, path, closed}
use Rattle.clip.proofs.Follow.{Fresh, fresh-nil, fresh-cons, chain-is}

abbrev with_all : List ℕ → Answer (List ℕ) → Answer (List ℕ)
with_all [] a = a
with_all (p ∷ ps) a = with p (with_all ps a)

all-declined : (ps : List ℕ) (why : _) → with_all ps (declined why) ≡ declined why
all-declined [] why = refl
all-declined (p ∷ ps) why = rw (all-declined ps why)

-- The visited records, whatever their order.
member-onto : (p : ℕ) (ps visited : List ℕ) → member p (reverse_aux ps visited) ≡ (member p ps || member p visited)
unfolding member
member-onto p [] visited = refl
member-onto p (q ∷ ps) visited = member-onto p ps (q ∷ visited) ∙ go (eqb p q) (member p ps) (member p visited)
  where
    go : (a b c : Bool) → (b || (a || c)) ≡ ((a || b) || c)
    go true true c = refl
    go true false c = refl
    go false b c = refl

visited-are : (p : ℕ) (ps : List ℕ) → member p (reverse_aux ps []) ≡ member p ps
unfolding member
visited-are p ps = member-onto p ps [] ∙ go (member p ps)
  where
    go : (b : Bool) → (b || false) ≡ b
    go true = refl
    go false = refl

module _ {B : Type 0} (r : Records B) where
  pub linked-below : (ps : List ℕ) (e l e' l' : ℕ) → Linked r e l ps e' l' → AllBelow r.additional ps
  linked-below [] e l e' l' c = tt
  linked-below (p ∷ ps) e l e' l' c = (c.1, linked-below ps l (r.at p).next e' l' c.4)

  -- One record more.
  pub one_more : (ps : List ℕ) (e l e' l' p : ℕ) → Linked r e l ps e' l' → (l' ≡ 0 → ⊥) → p < r.additional → (r.at p).index ≡ l' → (r.at p).previous ≡ e' → Linked r e l (ps ++ p ∷ []) l' (r.at p).next
  one_more [] e l e' l' p c on below is back = ((λ z. on (sym c.1 ∙ z)), below, is ∙ sym c.1, back ∙ sym c.0, (c.1, refl))
  one_more (q ∷ ps) e l e' l' p c on below is back = (c.0, c.1, c.2, c.3, one_more ps l (r.at q).next e' l' p c.4 on below is back)

  module _ (x : Indexed r) (t : ℕ) (is-track : t < r.tracks) (l : ℕ) where
    pub few : (ps : List ℕ) (e' l' : ℕ) → Linked r t l ps e' l' → length ps ≤ r.additional
    few ps e' l' c = distinct-length r.additional ps (path-distinct r x t is-track ps (path r ps t l e' l' c)) (linked-below ps t l e' l' c)

    pub new-record : (ps : List ℕ) (e' l' p : ℕ) → Linked r t l ps e' l' → (l' ≡ 0 → ⊥) → p < r.additional → (r.at p).index ≡ l' → (r.at p).previous ≡ e' → member p ps ≡ false
    new-record ps e' l' p c on below is back = go (member p ps) refl
      where
        go : (b : Bool) → member p ps ≡ b → b ≡ false
        go false e = refl
        go true e =
            let at = member-place p ps e in
            let longer = ps ++ p ∷ [] in
            let whole = path r longer t l l' (r.at p).next (one_more ps t l e' l' p c on below is back) in
            let many = length-append ps (p ∷ []) in
            let inner : get_or longer at.place 0 ≡ p = get_or-append ps (p ∷ []) 0 at.place at.below ∙ at.is in
            let outer : get_or longer (length ps) 0 ≡ p = get_or-append_seam ps p [] 0 in
            let below = at.below in
            absurd (let same = (one_place r x t t is-track is-track longer longer whole whole at.place (length ps) (omega (arith, below, many)) (omega (arith, many)) (inner ∙ sym outer)).1 in omega (arith, same, below))

-- One step of the walk, by what it finds.
module _ {B : Type 0} (kind : Kind) (r : Records B) (t : ℕ) (n : ℕ) (visited : List ℕ) (e l : ℕ) (on : l ≡ 0 → ⊥) where
  stops-missing : record_of r l ≡ none → follow kind r t (suc n) visited e l ≡ declined (refusal_of kind missing_link (pos t ∷ signed l ∷ []))
  unfolding follow
  stops-missing is = rw (ne_eqb l 0 on, is)

  module _ (p : ℕ) (is : record_of r l ≡ some p) where
    stops-cycle : member p visited ≡ true → follow kind r t (suc n) visited e l ≡ declined (refusal_of kind cycle (pos t ∷ signed l ∷ []))
    unfolding follow
    stops-cycle seen = rw (ne_eqb l 0 on, is, seen)

    stops-wrong : member p visited ≡ false → ((r.at p).previous ≡ e → ⊥) → follow kind r t (suc n) visited e l ≡ declined (refusal_of kind wrong_previous (pos t ∷ signed l ∷ signed (r.at p).previous ∷ signed e ∷ []))
    unfolding follow
    stops-wrong new other = rw (ne_eqb l 0 on, is, new, ne_eqb (r.at p).previous e other)

    steps : member p visited ≡ false → (r.at p).previous ≡ e → follow kind r t (suc n) visited e l ≡ with p (follow kind r t n (p ∷ visited) l (r.at p).next)
    unfolding follow
    steps new same = rw (ne_eqb l 0 on, is, new, eq-eqb (r.at p).previous e same)

module _ {B : Type 0} (kind : Kind) (r : Records B) (x : Indexed r) (t : ℕ) where
  along : (ps : List ℕ) (n : ℕ) (visited : List ℕ) (e l e' l' : ℕ) → Linked r e l ps e' l' → Distinct ps → Fresh visited ps → follow kind r t (length ps + n) visited e l ≡ with_all ps (follow kind r t n (reverse_aux ps visited) e' l')
  along [] n visited e l e' l' c d f = rw (c.0, c.1, zero-add n)
  along (p ∷ ps) n visited e l e' l' c d f =
      rw (suc-add (length ps) n)
      (steps kind r t (length ps + n) visited e l c.0 p (of-record r x l p c.1 c.2) f.0 c.3
      ∙ ap (with p) (along ps n (p ∷ visited) l (r.at p).next e' l' c.4 d.1 (fresh-cons p visited ps d.0 f.1)))

  module _ (is-track : t < r.tracks) (ps : List ℕ) (e l : ℕ) (c : Linked r t (r.initial t).next ps e l) where
    left : ℕ
    left = r.additional - length ps

    -- The chain is the records so far, and what follows them.
    so_far : chain kind r t ≡ with_all ps (follow kind r t (suc left) (reverse_aux ps []) e l)
    unfolding chain left
    so_far =
        let short = few r x t is-track (r.initial t).next ps e l c in
        let all : suc r.additional ≡ length ps + suc (r.additional - length ps) = omega (arith, short) in
        let once = path-distinct r x t is-track ps (path r ps t (r.initial t).next e l c) in
        ap (λ n. follow kind r t n [] t (r.initial t).next) all ∙ along ps (suc (r.additional - length ps)) [] t (r.initial t).next e l c once (fresh-nil ps)

    pub walk_ends : l ≡ 0 → chain kind r t ≡ answered ps
    walk_ends zero-link = chain-is kind r t x is-track ps (closed r ps t (r.initial t).next e (subst (λ k. Linked r t (r.initial t).next ps e k) zero-link c))

    pub walk-misses : (l ≡ 0 → ⊥) → record_of r l ≡ none → chain kind r t ≡ declined (refusal_of kind missing_link (pos t ∷ signed l ∷ []))
    walk-misses on is = so_far ∙ ap (with_all ps) (stops-missing kind r t left (reverse_aux ps []) e l on is) ∙ all-declined ps (refusal_of kind missing_link (pos t ∷ signed l ∷ []))

    pub walk-cycles : (l ≡ 0 → ⊥) → (p : ℕ) → record_of r l ≡ some p → member p ps ≡ true → chain kind r t ≡ declined (refusal_of kind cycle (pos t ∷ signed l ∷ []))
    walk-cycles on p is seen = so_far ∙ ap (with_all ps) (stops-cycle kind r t left (reverse_aux ps []) e l on p is (visited-are p ps ∙ seen)) ∙ all-declined ps (refusal_of kind cycle (pos t ∷ signed l ∷ []))

    pub walk-wrong : (l ≡ 0 → ⊥) → (p : ℕ) → record_of r l ≡ some p → member p ps ≡ false → ((r.at p).previous ≡ e → ⊥) → chain kind r t ≡ declined (refusal_of kind wrong_previous (pos t ∷ signed l ∷ signed (r.at p).previous ∷ signed e ∷ []))
    walk-wrong on p is new other = so_far ∙ ap (with_all ps) (stops-wrong kind r t left (reverse_aux ps []) e l on p is (visited-are p ps ∙ new) other) ∙ all-declined ps (refusal_of kind wrong_previous (pos t ∷ signed l ∷ signed (r.at p).previous ∷ signed e ∷ []))
