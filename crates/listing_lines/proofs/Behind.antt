-- Text behind text that was written: both are one text, by `put-append`, also where the slice ended within the first. Assumes nothing.
use Rattle.std.proofs.Common.{ℕ, ◌+◌, ◌≤◌, min, List, [], ◌++◌, length, ◌≡◌, sym, ap, ◌∙◌, subst, arith, length-append}
use native.Mathlib.Decide.{dec_le}
use Rattle.answer_numbers.specs.Put.{put}
use Rattle.answer_numbers.proofs.Putting.{put-append, put-none, put-past, length-put}
use Rattle.listing_lines.specs.Written.{Written}

-- A place past the end is as good as the end.
put-end : (at end : ℕ) (xs slice : List ℕ) → end ≡ min at (length slice) → put end xs slice ≡ put at xs slice
put-end at end xs slice e =
    elim (dec_le at (length slice)) [
      | yes within ↦ ap (λ (k : ℕ). put k xs slice) (omega (arith, e, within))
      | no past ↦ put-past end xs slice (omega (arith, e, past)) ∙ sym (put-past at xs slice (omega (arith, past)))
    ]

-- Nothing more is written.
pub ends-here : {end : ℕ} {text output : List ℕ} → end ≤ length output → text ≡ [] → Written end text output end output
ends-here {end} {text} {output} within none =
    let many : length text ≡ 0 = ap length none in
    record { ends = omega arith; leaves = sym (ap (λ (xs : List ℕ). put end xs output) none ∙ put-none end output) }

-- The text by an equal one.
pub same-text : {at end : ℕ} {xs ys old new : List ℕ} → xs ≡ ys → Written at xs old end new → Written at ys old end new
same-text {at} {end} {xs} {ys} {old} {new} e = subst (λ (text : List ℕ). Written at text old end new) e

pub behind : {at end last : ℕ} {xs ys old between new : List ℕ} → Written at xs old end between → Written end ys between last new → Written at (xs ++ ys) old last new
behind {at} {end} {last} {xs} {ys} {old} {between} {new} first then =
    let same : length between ≡ length old = ap length first.leaves ∙ length-put at xs old in
    record {
      ends = let a = first.ends in let b = then.ends in let c = length-append xs ys in omega arith;
      leaves =
          then.leaves
          ∙ put-end (at + length xs) end ys between (first.ends ∙ ap (min (at + length xs)) (sym same))
          ∙ ap (put (at + length xs) ys) first.leaves
          ∙ sym (put-append at xs ys old);
    }
