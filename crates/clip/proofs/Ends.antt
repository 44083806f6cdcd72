-- The walk along a chain ends before its bound is used up, so a greater bound changes nothing: the records visited are distinct, so they
-- are never more than all records. Assumes nothing.
use Prim.Native.Nat.{ℕ, zero, suc, ◌+◌, ◌<◌}
use native.Mathlib.Omega.{arith}
use mathlib.Core.Bool.{Bool, true, false, cond, not}
use mathlib.Core.List.{List, [], ◌∷◌}
use mathlib.Core.Option.{Option, none, some}
use mathlib.Core.Path.{◌≡◌, refl}
use lib.Dec.{eqb}
use lib.IntN.{pos}
use lib.ListN.{length}
use Rattle.layout.specs.Refusals.{missing_link, cycle, wrong_previous}
use Rattle.layout.specs.Numbers.{signed}
use Rattle.layout.specs.Walk.{Refusal, Answer, answered}
use Rattle.clip.specs.First.{given, ◌or◌, member}
use Rattle.clip.specs.Fields.{Records, Kind, refusal_of}
use Rattle.clip.specs.Scan.{record_of}
use Rattle.clip.specs.Chain.{unless, found, with, follow, chain}
use Rattle.clip.proofs.Counting.{Distinct, AllBelow, distinct-length}
use Rattle.clip.proofs.Indexed.{record_of-found}

module _ {B : Type 0} (kind : Kind) (r : Records B) (track : ℕ) where
  same_end : (n m : ℕ) (visited : List ℕ) (expected link : ℕ) → Distinct visited → AllBelow r.additional visited → r.additional < length visited + n → r.additional < length visited + m → follow kind r track n visited expected link ≡ follow kind r track m visited expected link
  unfolding follow
  same_end zero m visited expected link d b ln lm = absurd (let most = distinct-length r.additional visited d b in omega (arith, most, ln))
  same_end (suc n) zero visited expected link d b ln lm = absurd (let most = distinct-length r.additional visited d b in omega (arith, most, lm))
  same_end (suc n) (suc m) visited expected link d b ln lm =
      start (record_of r link) refl (λ p new below. same_end n m (p ∷ visited) link (r.at p).next (new, d) (below, b) (omega arith) (omega arith))
    where
      r6 : Refusal
      r6 = refusal_of kind missing_link (pos track ∷ signed link ∷ [])

      r7 : Refusal
      r7 = refusal_of kind cycle (pos track ∷ signed link ∷ [])

      r8 : ℕ → Refusal
      r8 p = refusal_of kind wrong_previous (pos track ∷ signed link ∷ signed (r.at p).previous ∷ signed expected ∷ [])

      onward : ℕ → ℕ → Answer (List ℕ)
      onward k p =
          let rest = follow kind r track k (p ∷ visited) link (r.at p).next in
          unless (given (member p visited) r7 or given (not (eqb (r.at p).previous expected)) (r8 p)) (with p rest)

      Before : Type 0
      Before = (p : ℕ) → member p visited ≡ false → p < r.additional → follow kind r track n (p ∷ visited) link (r.at p).next ≡ follow kind r track m (p ∷ visited) link (r.at p).next

      step : (p : ℕ) → p < r.additional → Before → (seen : Bool) → member p visited ≡ seen → unless (given seen r7 or given (not (eqb (r.at p).previous expected)) (r8 p)) (with p (follow kind r track n (p ∷ visited) link (r.at p).next)) ≡ unless (given seen r7 or given (not (eqb (r.at p).previous expected)) (r8 p)) (with p (follow kind r track m (p ∷ visited) link (r.at p).next))
      step p below before true is = refl
      step p below before false is = rw (before p is below)

      start : (at : Option ℕ) → record_of r link ≡ at → Before → cond (eqb link 0) (answered []) (found at r6 (onward n)) ≡ cond (eqb link 0) (answered []) (found at r6 (onward m))
      start none is before = refl
      start (some p) is before = rw (step p (record_of-found r link p is).0 before (member p visited) refl)

  pub ends : (more : ℕ) → chain kind r track ≡ follow kind r track (suc r.additional + more) [] track (r.initial track).next
  unfolding chain
  ends more = same_end (suc r.additional) (suc r.additional + more) [] track (r.initial track).next tt tt (omega arith) (omega arith)
