-- Each record's index is one that no earlier record has, so no two are alike: the index scan passes exactly where indices are in range and
-- distinct, and then the record found for an index is the only one that bears it. Assumes nothing.
use Prim.Native.Nat.{ℕ, ◌≤◌, ◌<◌}
use native.Mathlib.Decide.{ℕ_discrete, dec_lt}
use native.Mathlib.Omega.{arith}
use mathlib.Core.List.{[], ◌∷◌}
use mathlib.Core.Option.{none, some}
use mathlib.Core.Path.{◌≡◌, sym, ◌∙◌, subst}
use borrow.Author.Tests.{leb-false, lt-leb, ltb-false, le-ltb, eqb-true, eqb-false, eq-eqb, ne_eqb}
use lib.Dec.{eqb, ltb}
use lib.IntN.{pos}
use Rattle.layout.specs.Refusals.{negative_index, index_below_count, repeated_index}
use Rattle.layout.specs.Numbers.{signed, least_negative, negative}
use Rattle.clip.specs.First.{given, ◌or◌, any}
use Rattle.clip.specs.Fields.{Records, Kind, refusal_of}
use Rattle.clip.specs.Scan.{index_refusal, scan, record_of, Indexed}
use Rattle.clip.proofs.First.{or-none, none_or, given-none, none-given, given-some, first-none, none_first, first_some, first-only, any_false, false-any}

module _ {B : Type 0} (kind : Kind) (r : Records B) where
  record Passed (p : ℕ) : Type 0 where
    pub positive : (r.at p).index < least_negative
    pub above : r.tracks ≤ (r.at p).index
    pub new : (q : ℕ) → q < p → (r.at q).index ≡ (r.at p).index → ⊥

  passed : (p : ℕ) → index_refusal kind r p ≡ none → Passed p
  unfolding index_refusal
  passed p e =
      let index = (r.at p).index in
      let r3 = refusal_of kind negative_index (signed index ∷ []) in
      let r4 = refusal_of kind index_below_count (signed index ∷ pos r.tracks ∷ []) in
      let r5 = refusal_of kind repeated_index (signed index ∷ []) in
      let seen = any p (λ q. eqb (r.at q).index index) in
      let parts = or-none (given (negative index) r3) (given (ltb index r.tracks) r4 or given seen r5) e in
      let rest = or-none (given (ltb index r.tracks) r4) (given seen r5) parts.1 in
      let low = leb-false least_negative index (given-none (negative index) r3 parts.0) in
      record {
        positive = omega (arith, low);
        above = ltb-false index r.tracks (given-none (ltb index r.tracks) r4 rest.0);
        new = λ q lt same. eqb-false (r.at q).index index (any_false (λ q. eqb (r.at q).index index) p (given-none seen r5 rest.1) q lt) same;
      }

  pub scanned : scan kind r ≡ none → Indexed r
  unfolding scan
  scanned e =
      record {
        positive = λ p lt. (passed p (first-none r.additional (index_refusal kind r) e p lt)).positive;
        above = λ p lt. (passed p (first-none r.additional (index_refusal kind r) e p lt)).above;
        apart = λ p q lp lq same. go p q (first-none r.additional (index_refusal kind r) e p lp) (first-none r.additional (index_refusal kind r) e q lq) same (ℕ_discrete p q) (dec_lt p q);
      }
    where
      go : (p q : ℕ) → index_refusal kind r p ≡ none → index_refusal kind r q ≡ none → (r.at p).index ≡ (r.at q).index → Dec (p ≡ q) → Dec (p < q) → p ≡ q
      go p q ep eq same (yes e) d = e
      go p q ep eq same (no ne) (yes lt) = absurd ((passed q eq).new p lt same)
      go p q ep eq same (no ne) (no nlt) = absurd ((passed p ep).new q (omega (arith, ne, nlt)) (sym same))

  pub scans : Indexed r → scan kind r ≡ none
  unfolding scan index_refusal
  scans x =
      none_first r.additional (index_refusal kind r) (λ p lt.
      let index = (r.at p).index in
      let low = x.positive p lt in
      none_or _ _ (none-given _ _ (lt-leb least_negative index (omega (arith, low))))
      (none_or _ _ (none-given _ _ (le-ltb index r.tracks (x.above p lt)))
      (none-given _ _ (false-any (λ q. eqb (r.at q).index index) p (λ q less. ne_eqb (r.at q).index index (λ same. let e = x.apart q p (omega (arith, less, lt)) lt same in omega (arith, e, less)))))))

module _ {B : Type 0} (r : Records B) where
  pub record_of-found : (link p : ℕ) → record_of r link ≡ some p → (p < r.additional) × ((r.at p).index ≡ link)
  unfolding record_of
  record_of-found link p e =
      let at = first_some r.additional (λ q. given (eqb (r.at q).index link) q) p e in
      let both = given-some (eqb (r.at at.place).index link) at.place p at.is in
      (subst (λ q. q < r.additional) both.1 at.below, subst (λ q. (r.at q).index ≡ link) both.1 (eqb-true _ _ both.0))

  pub of-record : Indexed r → (link p : ℕ) → p < r.additional → (r.at p).index ≡ link → record_of r link ≡ some p
  unfolding record_of
  of-record x link p lt e =
      first-only r.additional (λ q. given (eqb (r.at q).index link) q) p p lt
      (rw (eq-eqb (r.at p).index link e))
      (λ q below other. none-given _ _ (ne_eqb (r.at q).index link (λ same. other (x.apart q p below lt (same ∙ sym e)))))
