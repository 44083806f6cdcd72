-- Rows put one after the other are the rows written: those from a number on, as far as whole rows fit, over what the slice held. Each row
-- that is put extends those written by one. Assumes nothing.
use Rattle.std.proofs.Common.{◌≡◌, ℕ, zero, suc, ◌+◌, ◌-◌, ◌*◌, ◌/◌, ◌≤◌, ◌<◌, List, [], ◌∷◌, ◌++◌, length, take, drop, refl, sym, ap, ◌∙◌, arith, inl, inr, append_assoc, append-nil, length-append, length-drop, length-take, drop-drop}
use Rattle.std.specs.List.{AllByRecursion}
use Rattle.std.proofs.lemmas.{Bool.{cases_lt}, List.{drop_all, take_all, take_at, drop_at, take-append-le, drop-append-le}}
use Rattle.strip.specs.Call.{over}
use Rattle.strip_reader.specs.Rows.{row_put, rows_put}
use Rattle.std.specs.List.{concat}
use Rattle.strip_reader.proofs.RowNumbers.{row-before, row-outside, row-there}

-- Each row has 16 numbers.
abbrev pub AreRows : List (List ℕ) → Type 0
AreRows = AllByRecursion (λ (row : List ℕ). length row ≡ 16)

pub are-rows-append : (xs ys : List (List ℕ)) → AreRows xs → AreRows ys → AreRows (xs ++ ys)
are-rows-append [] ys px py = py
are-rows-append (x ∷ xs) ys px py = (px.0, are-rows-append xs ys px.1 py)

are-rows-drop : (n : ℕ) (xs : List (List ℕ)) → AreRows xs → AreRows (drop n xs)
are-rows-drop zero xs p = p
are-rows-drop (suc n) [] p = tt
are-rows-drop (suc n) (x ∷ xs) p = are-rows-drop n xs p.1

are-rows-take : (n : ℕ) (xs : List (List ℕ)) → AreRows xs → AreRows (take n xs)
are-rows-take zero xs p = tt
are-rows-take (suc n) [] p = tt
are-rows-take (suc n) (x ∷ xs) p = (p.0, are-rows-take n xs p.1)

joined-append : (xs ys : List (List ℕ)) → concat (xs ++ ys) ≡ concat xs ++ concat ys
joined-append [] ys = refl
joined-append (x ∷ xs) ys = ap (λ (rest : List ℕ). x ++ rest) (joined-append xs ys) ∙ sym (append_assoc x (concat xs) (concat ys))

joined-one : (row : List ℕ) → concat (row ∷ []) ≡ row
joined-one row = append-nil row

length-joined : (xs : List (List ℕ)) → AreRows xs → length (concat xs) ≡ length xs * 16
length-joined [] p = refl
length-joined (x ∷ xs) p = omega (arith, p.0, length-append x (concat xs), length-joined xs p.1)

pub rows-put-append : (first number : ℕ) (xs ys : List (List ℕ)) (s : List ℕ) → rows_put first number (xs ++ ys) s ≡ rows_put first (number + length xs) ys (rows_put first number xs s)
unfolding rows_put
rows-put-append first number [] ys s = ap (λ (n : ℕ). rows_put first n ys s) {x = number} {y = number + 0} (omega arith)
rows-put-append first number (x ∷ xs) ys s =
    let next : number + 1 + length xs ≡ number + suc (length xs) = omega arith in
    rows-put-append first (number + 1) xs ys (row_put first number x s) ∙ ap (λ (n : ℕ). rows_put first n ys (rows_put first (number + 1) xs (row_put first number x s))) next

module _ (first : ℕ) (old : List ℕ) where
  abbrev pub written : List (List ℕ) → List ℕ
  written done = over (concat (take (length old / 16) (drop first done))) old

  none-written : written [] ≡ old
  none-written = rw (drop_all {X = List ℕ} first [] (omega arith), take_all {A = List ℕ} (length old / 16) [] (omega arith)) refl

  module _ (done : List (List ℕ)) (row : List ℕ) where
    length-written : AreRows done → length (written done) ≡ length old
    length-written rows =
        let some = take (length old / 16) (drop first done) in
        let long = length-joined some (are-rows-take (length old / 16) (drop first done) (are-rows-drop first done rows)) in
        let few = length-take (length old / 16) (drop first done) in
        omega (arith, long, few, length-append (concat some) (drop (length (concat some)) old), length-drop (length (concat some)) old)

    -- Not one of those asked for.
    before : length done < first → written done ≡ written (done ++ row ∷ [])
    before less = ap (λ (xs : List (List ℕ)). over (concat (take (length old / 16) xs)) old) (drop_all first done (omega arith) ∙ sym (drop_all first (done ++ row ∷ []) (omega (arith, length-append done (row ∷ [])))))

    module _ (low : first ≤ length done) where
      one_more : drop first (done ++ row ∷ []) ≡ drop first done ++ row ∷ []
      one_more = drop-append-le first done (row ∷ []) low

      -- No room for it.
      outside : length old / 16 ≤ length done - first → written done ≡ written (done ++ row ∷ [])
      outside full =
          ap (λ (xs : List (List ℕ)). over (concat xs) old) (sym (take-append-le (length old / 16) (drop first done) (row ∷ []) (omega (arith, length-drop first done))) ∙ ap (take (length old / 16)) (sym one_more))

      module _ (rows : AreRows done) (long : length row ≡ 16) (room : length done - first < length old / 16) where
        abbrev front : List ℕ
        front = concat (drop first done)

        long_front : length front ≡ (length done - first) * 16
        long_front = length-joined (drop first done) (are-rows-drop first done rows) ∙ ap (λ (n : ℕ). n * 16) (length-drop first done)

        all_before : written done ≡ front ++ drop (length front) old
        all_before = ap (λ (xs : List (List ℕ)). over (concat xs) old) (take_all (length old / 16) (drop first done) (omega (arith, length-drop first done)))

        all_with : written (done ++ row ∷ []) ≡ (front ++ row) ++ drop (length front + 16) old
        all_with =
            ap (λ (xs : List (List ℕ)). over (concat (take (length old / 16) xs)) old) one_more
            ∙ ap (λ (xs : List (List ℕ)). over (concat xs) old) (take_all (length old / 16) (drop first done ++ row ∷ []) (omega (arith, length-append (drop first done) (row ∷ []), length-drop first done)))
            ∙ ap (λ (xs : List ℕ). over xs old) (joined-append (drop first done) (row ∷ []) ∙ ap (λ (xs : List ℕ). front ++ xs) (joined-one row))
            ∙ ap (λ (n : ℕ). (front ++ row) ++ drop n old) (length-append front row ∙ ap (λ (n : ℕ). length front + n) long)

        abbrev place : ℕ
        place = (length done - first) * 16

        in_front : take place (written done) ≡ front
        in_front = ap (take place) all_before ∙ take_at front (drop (length front) old) place long_front

        behind : drop (place + 16) (written done) ≡ drop (length front + 16) old
        behind =
            sym (drop-drop 16 place (written done))
            ∙ ap (drop 16) (ap (drop place) all_before ∙ drop_at front (drop (length front) old) place long_front)
            ∙ drop-drop 16 (length front) old

        inside : row_put first (length done) row (written done) ≡ written (done ++ row ∷ [])
        inside =
            row-there first (length done) row (written done) low (rw (length-written rows) room)
            ∙ ap (λ (xs : List ℕ). xs ++ row ++ drop (place + 16) (written done)) in_front
            ∙ ap (λ (xs : List ℕ). front ++ row ++ xs) behind
            ∙ sym all_with

    row-put-written : AreRows done → length row ≡ 16 → row_put first (length done) row (written done) ≡ written (done ++ row ∷ [])
    row-put-written rows long =
        elim (cases_lt (length done) first) [
          | inl less ↦ sym (row-before first (length done) row (written done) less) ∙ before less
          | inr low ↦ elim (cases_lt (length done - first) (length old / 16)) [
            | inl room ↦ inside low rows long room
            | inr full ↦ sym (row-outside first (length done) row (written done) (rw (length-written rows) full)) ∙ outside low full
          ]
        ]

  put-written : (done xs : List (List ℕ)) → AreRows done → AreRows xs → rows_put first (length done) xs (written done) ≡ written (done ++ xs)
  unfolding rows_put
  put-written done [] rows more = sym (ap written (append-nil done))
  put-written done (x ∷ xs) rows more =
      let with_one = put-written (done ++ x ∷ []) xs (are-rows-append done (x ∷ []) rows (more.0, tt)) more.1 in
      let next : length (done ++ x ∷ []) ≡ length done + 1 = length-append done (x ∷ []) in
      ap (rows_put first (length done + 1) xs) (row-put-written done x rows more.0)
      ∙ ap (λ (n : ℕ). rows_put first n xs (written (done ++ x ∷ []))) (sym next)
      ∙ with_one
      ∙ ap written (append_assoc done (x ∷ []) xs)

  pub all-put : (xs : List (List ℕ)) → AreRows xs → rows_put first 0 xs old ≡ written xs
  all-put xs rows = ap (rows_put first 0 xs) (sym none-written) ∙ put-written [] xs tt rows
