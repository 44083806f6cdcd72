-- A bone key's fields as the body of a record: four parts put one behind the other fill it. Assumes nothing.
use Rattle.std.proofs.Common.{◌≡◌, ℕ, ◌+◌, List, ◌++◌, length, ap, ◌∙◌, arith}
use lib.ListN.{length-append}
use mathlib.Core.List.{append-nil}
use Rattle.std.proofs.lemmas.List.{drop_all}
use Rattle.keys.specs.Placed.{Wrote}
use Rattle.keys.proofs.Placing.{wrote_then, placed_first}

pub four-put :
    (a b c d old : List ℕ) (mid next last end : ℕ) (one two three new : List ℕ)
    → length a + length b + length c + length d ≡ length old
    → Wrote 0 a old mid one → Wrote mid b one next two → Wrote next c two last three → Wrote last d three end new
    → new ≡ a ++ b ++ c ++ d
four-put a b c d old mid next last end one two three new long w1 w2 w3 w4 =
    let l2 = length-append a b in
    let l3 = length-append (a ++ b) c in
    let l4 = length-append (a ++ b ++ c) d in
    let ab = wrote_then 0 a b old (omega (arith, l2, long)) mid one w1 next two w2 in
    let abc = wrote_then 0 (a ++ b) c old (omega (arith, l2, l3, long)) next two ab last three w3 in
    let all = wrote_then 0 (a ++ b ++ c) d old (omega (arith, l2, l3, l4, long)) last three abc end new w4 in
    all.leaves
    ∙ placed_first (a ++ b ++ c ++ d) old
    ∙ ap (λ (rest : List ℕ). a ++ b ++ c ++ d ++ rest) (drop_all (length (a ++ b ++ c ++ d)) old (omega (arith, l2, l3, l4, long)))
    ∙ append-nil (a ++ b ++ c ++ d)
