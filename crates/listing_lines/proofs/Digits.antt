-- A number's digits, put down from the last one on: what is left to put down and what stands are the number's text, by std's laws of
-- `decimal`. Assumes nothing.
use Rattle.std.proofs.Common.{ℕ, ◌+◌, ◌-◌, ◌/◌, ◌%◌, ◌^◌, ◌<◌, ◌≤◌, List, [], ◌∷◌, ◌++◌, length, drop, ◌≡◌, sym, ap, ◌∙◌, arith, append_assoc, append-nil, length-append, drop_of_length-le}
use Rattle.std.proofs.Math.ListN.{set}
use Rattle.std.proofs.lemmas.Grind.{drop-set_at}
use Rattle.std.proofs.lemmas.Fmt.{decimal_digit, decimal_step}
use Rattle.std.specs.Fmt.{decimal}

pub none-yet : (n : ℕ) (digits : List ℕ) → length digits ≡ 20 → decimal n ++ drop 20 digits ≡ decimal n
none-yet n digits many = rw (drop_of_length-le digits {i = 20} (omega arith)) (append-nil (decimal n))

-- The digit before those that stand.
put-down : (at x : ℕ) (digits : List ℕ) → 1 ≤ at → at ≤ length digits → drop (at - 1) (set digits (at - 1) x) ≡ x ∷ drop at digits
put-down at x digits some within =
    drop-set_at digits (at - 1) (at - 1) x (omega arith) (omega arith)
    ∙ ap (λ (k : ℕ). x ∷ drop k digits) (let e : at - 1 + 1 ≡ at = omega arith in e)

pub one-more : (n at : ℕ) (digits text : List ℕ) → 10 ≤ n → n < 2 ^ 64 → 1 ≤ at → at ≤ length digits → decimal n ++ drop at digits ≡ text
    → decimal (n / 10) ++ drop (at - 1) (set digits (at - 1) (48 + n % 10)) ≡ text
one-more n at digits text more small some within so_far =
    ap (λ (xs : List ℕ). decimal (n / 10) ++ xs) (put-down at (48 + n % 10) digits some within)
    ∙ sym (append_assoc (decimal (n / 10)) ((48 + n % 10) ∷ []) (drop at digits))
    ∙ ap (λ (xs : List ℕ). xs ++ drop at digits) (sym (decimal_step n more small))
    ∙ so_far

pub last : (n at : ℕ) (digits text : List ℕ) → n < 10 → 1 ≤ at → at ≤ length digits → decimal n ++ drop at digits ≡ text
    → drop (at - 1) (set digits (at - 1) (48 + n)) ≡ text
last n at digits text small some within so_far =
    put-down at (48 + n) digits some within
    ∙ ap (λ (xs : List ℕ). xs ++ drop at digits) (sym (decimal_digit n small))
    ∙ so_far

-- There is room for the rest.
pub length-step : (n : ℕ) → 10 ≤ n → n < 2 ^ 64 → length (decimal n) ≡ length (decimal (n / 10)) + 1
length-step n more small = ap length (decimal_step n more small) ∙ length-append (decimal (n / 10)) ((48 + n % 10) ∷ [])
