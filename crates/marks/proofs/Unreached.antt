-- Of the first p records so many are disconnected and so many loose (`Counted`), and one record more is reached, loose or disconnected.
-- Where as many links are followed as there are records, none is left. Assumes nothing.
use Prim.Native.Nat.{ℕ, ◌+◌, ◌≤◌, ◌<◌}
use native.Mathlib.Numerals.{add-one}
use native.Mathlib.Omega.{arith}
use mathlib.Core.Bool.{Bool, true, false, cond, not, ◌&&◌}
use mathlib.Core.Path.{◌≡◌, refl, sym, ◌∙◌, subst}
use Rattle.layout.specs.Walk.{answered}
use Rattle.clip.specs.First.{number}
use Rattle.clip.specs.Fields.{Records, Kind}
use Rattle.clip.specs.Scan.{Indexed}
use Rattle.clip.specs.Chain.{chain}
use Rattle.clip.specs.Build.{chain_of, reached, both_links_zero, disconnected, links_followed, loose}
use Rattle.clip.proofs.Counting.{number-le}
use Rattle.clip.proofs.Reached.{all-counted}
use Rattle.marks.proofs.Each.{length-each}

number_more : (n : ℕ) (f : ℕ → Bool) (b : Bool) → f n ≡ b → number (n + 1) f ≡ number n f + cond b 1 0
unfolding number
number_more n f b is = rw (add-one, is)

module _ {B : Type 0} (kind : Kind) (r : Records B) where
  abbrev loose_at : ℕ → Bool
  loose_at p = not (reached kind r p) && both_links_zero kind r p

  abbrev cut_at : ℕ → Bool
  cut_at p = not (reached kind r p) && not (both_links_zero kind r p)

  -- The first p records are counted.
  pub record Counted (cut idle p : ℕ) : Type 0 where
    pub disconnected-so-far : cut ≡ number p cut_at
    pub loose-so-far : idle ≡ number p loose_at

module _ {B : Type 0} {kind : Kind} {r : Records B} where
  pub starts : Counted kind r 0 0 0
  unfolding number
  starts = record { disconnected-so-far = refl; loose-so-far = refl }

  module _ {cut idle p : ℕ} (c : Counted kind r cut idle p) where
    pub below : (cut ≤ p) × (idle ≤ p)
    below = (rw c.disconnected-so-far (number-le p (cut_at kind r)), rw c.loose-so-far (number-le p (loose_at kind r)))

    pub done : p ≡ r.additional → (cut ≡ disconnected kind r) × (idle ≡ loose kind r)
    unfolding disconnected loose
    done same =
        (subst (λ (k : ℕ). cut ≡ number k (cut_at kind r)) same c.disconnected-so-far, subst (λ (k : ℕ). idle ≡ number k (loose_at kind r)) same c.loose-so-far)

    more : (a b : Bool) → reached kind r p ≡ a → both_links_zero kind r p ≡ b → (cut' idle' : ℕ) → cut' ≡ cut + cond (not a && not b) 1 0 → idle' ≡ idle + cond (not a && b) 1 0 → Counted kind r cut' idle' (p + 1)
    more a b ea eb cut' idle' ec ei =
        let before-cut = c.disconnected-so-far in
        let before-idle = c.loose-so-far in
        let more_cut = number_more p (cut_at kind r) (not a && not b) (rw (ea, eb)) in
        let more-idle = number_more p (loose_at kind r) (not a && b) (rw (ea, eb)) in
        record {
          disconnected-so-far = ec ∙ rw before-cut (sym more_cut);
          loose-so-far = ei ∙ rw before-idle (sym more-idle);
        }

    pub passes : reached kind r p ≡ true → Counted kind r cut idle (p + 1)
    passes is = more true (both_links_zero kind r p) is refl cut idle (omega arith) (omega arith)

    pub takes : reached kind r p ≡ false → both_links_zero kind r p ≡ true → Counted kind r cut (idle + 1) (p + 1)
    takes is zeros = more false true is zeros cut (idle + 1) (omega arith) refl

    pub leaves : reached kind r p ≡ false → both_links_zero kind r p ≡ false → Counted kind r (cut + 1) idle (p + 1)
    leaves is zeros = more false false is zeros (cut + 1) idle refl (omega arith)

-- Where as many links are followed as there are records, none is left.
pub all-reached : {B : Type 0} (kind : Kind) (r : Records B) → Indexed r → ((t : ℕ) → t < r.tracks → chain kind r t ≡ answered (chain_of kind r t)) → links_followed kind r ≡ r.additional → (disconnected kind r ≡ 0) × (loose kind r ≡ 0)
all-reached kind r x ended all =
    let parts = all-counted kind r x ended in
    (omega (arith, parts, all), omega (arith, parts, all))

pub ruleset counting = (all-reached, below, done, length-each)
