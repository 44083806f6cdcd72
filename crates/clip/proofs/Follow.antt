-- The walk gives a list exactly where it is a chain (Chained). A chain has no repeats, so none of its records was visited before; so it has
-- no more than there are, and the walk's bound is not used up. Assumes nothing.
use Prim.Native.Nat.{ℕ, zero, suc, ◌<◌}
use native.Mathlib.Omega.{arith}
use mathlib.Core.Bool.{Bool, true, false, cond, not, ◌||◌}
use mathlib.Core.List.{List, [], ◌∷◌}
use mathlib.Core.Option.{Option, none, some}
use mathlib.Core.Path.{◌≡◌, refl, sym, subst}
use borrow.Author.Tests.{eqb-true, eqb-false, eq-eqb, ne_eqb}
use lib.Dec.{eqb}
use lib.IntN.{pos}
use lib.ListN.{length}
use Rattle.layout.specs.Refusals.{missing_link, cycle, wrong_previous}
use Rattle.layout.specs.Numbers.{signed}
use Rattle.layout.specs.Walk.{Refusal, Answer, answered, declined}
use Rattle.clip.specs.First.{given, ◌or◌, member}
use Rattle.clip.specs.Fields.{Records, Kind, refusal_of}
use Rattle.clip.specs.Scan.{record_of, Indexed}
use Rattle.clip.specs.Chain.{unless, found, with, follow, chain}
use Rattle.clip.proofs.First.{contrary}
use Rattle.clip.proofs.Counting.{Distinct, distinct-length}
use Rattle.clip.proofs.Indexed.{record_of-found, of-record}
use Rattle.clip.proofs.Chained.{Chained, all-below, no-repeats}

pub answer-is : {A : Type 0} {a b : A} → answered a ≡ answered b → a ≡ b
answer-is e = cc

pub no_answer : {A P : Type 0} {a : A} {why : Refusal} → declined why ≡ answered a → P
no_answer e = absurd (let z : ◌≡◌ {A = ℕ} 0 1 = cc in omega arith)

-- None of a list is in another.
abbrev pub Fresh : List ℕ → List ℕ → Type 0
Fresh visited [] = Unit {0}
Fresh visited (p ∷ ps) = (member p visited ≡ false) × Fresh visited ps

pub fresh-nil : (ps : List ℕ) → Fresh [] ps
unfolding member
fresh-nil [] = tt
fresh-nil (p ∷ ps) = (refl, fresh-nil ps)

pub fresh-cons : (p : ℕ) (visited ps : List ℕ) → member p ps ≡ false → Fresh visited ps → Fresh (p ∷ visited) ps
unfolding member
fresh-cons p visited [] out f = tt
fresh-cons p visited (q ∷ ps) out f = go (eqb p q) refl out (λ out. fresh-cons p visited ps out f.1)
  where
    go : (b : Bool) → eqb p q ≡ b → (b || member p ps) ≡ false → (member p ps ≡ false → Fresh (p ∷ visited) ps) → Fresh (p ∷ visited) (q ∷ ps)
    go true e out rest = contrary true refl out
    go false e out rest = (rw (ne_eqb q p (λ same. eqb-false p q e (sym same))) f.0, rest out)

module _ {B : Type 0} (kind : Kind) (r : Records B) (track : ℕ) where
  -- What the walk gives is a chain.
  pub followed : (n : ℕ) (visited : List ℕ) (expected link : ℕ) (ps : List ℕ) → follow kind r track n visited expected link ≡ answered ps → Chained r expected link ps
  unfolding follow
  followed zero visited expected link ps e = no_answer e
  followed (suc n) visited expected link ps e = start (eqb link 0) (record_of r link) refl refl (followed n) e
    where
      r6 : Refusal
      r6 = refusal_of kind missing_link (pos track ∷ signed link ∷ [])

      r7 : Refusal
      r7 = refusal_of kind cycle (pos track ∷ signed link ∷ [])

      r8 : ℕ → Refusal
      r8 p = refusal_of kind wrong_previous (pos track ∷ signed link ∷ signed (r.at p).previous ∷ signed expected ∷ [])

      Before : Type 0
      Before = (visited : List ℕ) (expected link : ℕ) (ps : List ℕ) → follow kind r track n visited expected link ≡ answered ps → Chained r expected link ps

      step : (p : ℕ) → eqb link 0 ≡ false → record_of r link ≡ some p → Before → (seen same : Bool) (rest : Answer (List ℕ)) → eqb (r.at p).previous expected ≡ same → follow kind r track n (p ∷ visited) link (r.at p).next ≡ rest → unless (given seen r7 or given (not same) (r8 p)) (with p rest) ≡ answered ps → Chained r expected link ps
      step p on at before true same rest es er e = no_answer e
      step p on at before false false rest es er e = no_answer e
      step p on at before false true (declined why) es er e = no_answer e
      step p on at before false true (answered qs) es er e =
          let is = record_of-found r link p at in
          subst (λ l. Chained r expected link l) (answer-is e) (eqb-false link 0 on, is.0, is.1, eqb-true (r.at p).previous expected es, before (p ∷ visited) link (r.at p).next qs er)

      start : (ends : Bool) (at : Option ℕ) → eqb link 0 ≡ ends → record_of r link ≡ at → Before → cond ends (answered []) (found at r6 (λ p. let rest = follow kind r track n (p ∷ visited) link (r.at p).next in unless (given (member p visited) r7 or given (not (eqb (r.at p).previous expected)) (r8 p)) (with p rest))) ≡ answered ps → Chained r expected link ps
      start true at on is before e = subst (λ l. Chained r expected link l) (answer-is e) (eqb-true link 0 on)
      start false none on is before e = no_answer e
      start false (some p) on is before e = step p on is before (member p visited) (eqb (r.at p).previous expected) (follow kind r track n (p ∷ visited) link (r.at p).next) refl refl e

  -- A chain is what the walk gives.
  pub follows : Indexed r → (ps : List ℕ) (n : ℕ) (visited : List ℕ) (expected link : ℕ) → Chained r expected link ps → Distinct ps → Fresh visited ps → length ps < n → follow kind r track n visited expected link ≡ answered ps
  unfolding follow
  follows x ps zero visited expected link c d f lt = absurd (omega arith)
  follows x [] (suc n) visited expected link c d f lt = rw (eq-eqb link 0 c)
  follows x (p ∷ ps) (suc n) visited expected link c d f lt =
      rw (ne_eqb link 0 c.0, of-record r x link p c.1 c.2, f.0, eq-eqb (r.at p).previous expected c.3, follows x ps n (p ∷ visited) link (r.at p).next c.4 d.1 (fresh-cons p visited ps d.0 f.1) (omega arith))

  -- The chain of a track, for certain.
  pub chain-is : Indexed r → track < r.tracks → (ps : List ℕ) → Chained r track (r.initial track).next ps → chain kind r track ≡ answered ps
  unfolding chain
  chain-is x lt ps c =
      let once = no-repeats r x track lt (r.initial track).next ps c in
      let short = distinct-length r.additional ps once (all-below r ps track (r.initial track).next c) in
      follows x ps (suc r.additional) [] track (r.initial track).next c once (fresh-nil ps) (omega (arith, short))

  pub is-chain : (ps : List ℕ) → chain kind r track ≡ answered ps → Chained r track (r.initial track).next ps
  unfolding chain
  is-chain ps e = followed (suc r.additional) [] track (r.initial track).next ps e
