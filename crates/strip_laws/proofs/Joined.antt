-- Rows of 16 numbers concat, and what lies behind them: row i begins at place 16 * i. Assumes nothing.
use Rattle.std.proofs.Common.{◌≡◌, ℕ, zero, suc, ◌+◌, ◌*◌, ◌<◌, ◌≤◌, List, [], ◌∷◌, ◌++◌, length, take, drop, get_or, refl, sym, ap, ◌∙◌, arith, append_assoc, take_at, drop_at, drop-drop, length-append, length-drop}
use Rattle.std.specs.List.{AllByRecursion}
use Rattle.strip.specs.Call.{over}
use Rattle.std.specs.List.{concat}
use Rattle.strip_reader.specs.Answers.{row_numbers}

abbrev pub AllRows : List (List ℕ) → Type 0
AllRows = AllByRecursion (λ row. length row ≡ row_numbers)

pub length-joined : (rs : List (List ℕ)) → AllRows rs → length (concat rs) ≡ row_numbers * length rs
length-joined [] all = refl
length-joined (r ∷ rs) all = omega (arith, length-append r (concat rs), all.0, length-joined rs all.1)

joined-row : (rs : List (List ℕ)) (rest : List ℕ) (i : ℕ) → AllRows rs → i < length rs → take row_numbers (drop (row_numbers * i) (concat rs ++ rest)) ≡ get_or rs i []
joined-row [] rest i all less = absurd (omega (arith, less))
joined-row (r ∷ rs) rest zero all less = ap (take row_numbers) (append_assoc r (concat rs) rest) ∙ take_at r (concat rs ++ rest) row_numbers all.0
joined-row (r ∷ rs) rest (suc i) all less =
    let split : row_numbers * suc i ≡ row_numbers + row_numbers * i = omega arith in
    let skip : drop (row_numbers * suc i) ((r ++ concat rs) ++ rest) ≡ drop (row_numbers * i) (concat rs ++ rest) =
    ap (λ n. drop n ((r ++ concat rs) ++ rest)) split
    ∙ sym (drop-drop (row_numbers * i) row_numbers ((r ++ concat rs) ++ rest))
    ∙ ap (λ bytes. drop (row_numbers * i) (drop row_numbers bytes)) (append_assoc r (concat rs) rest)
    ∙ ap (drop (row_numbers * i)) (drop_at r (concat rs ++ rest) row_numbers all.0) in
    ap (take row_numbers) skip ∙ joined-row rs rest i all.1 (omega (arith, less))

module _ (rs : List (List ℕ)) (old : List ℕ) (all : AllRows rs) where
  pub row-over : (i : ℕ) → i < length rs → take row_numbers (drop (row_numbers * i) (over (concat rs) old)) ≡ get_or rs i []
  row-over i less = joined-row rs (drop (length (concat rs)) old) i all less

  pub behind-rows : drop (row_numbers * length rs) (over (concat rs) old) ≡ drop (row_numbers * length rs) old
  behind-rows =
      let many = length-joined rs all in
      drop_at (concat rs) (drop (length (concat rs)) old) (row_numbers * length rs) many ∙ ap (λ n. drop n old) many

  pub length-rows : row_numbers * length rs ≤ length old → length (over (concat rs) old) ≡ length old
  length-rows fits =
      let many = length-joined rs all in
      omega (arith, length-append (concat rs) (drop (length (concat rs)) old), length-drop (length (concat rs)) old, many, fits)
