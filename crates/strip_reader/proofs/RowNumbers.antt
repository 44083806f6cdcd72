-- A key's numbers: an array is the list of its places, and a curve's number is that of its four bytes. A row is put, or the slice stays.
-- Assumes nothing.
use Rattle.std.proofs.Common.{◌≡◌, ℕ, zero, suc, ◌+◌, ◌-◌, ◌*◌, ◌/◌, ◌≤◌, ◌<◌, Bool, true, false, ◌||◌, List, [], ◌∷◌, ◌++◌, map, length, take, drop, get_or, refl, sym, ap, ◌∙◌, arith, append_assoc, drop-drop}
use Rattle.std.specs.Int.{w32, from_le_bytes}
use Rattle.std.proofs.lemmas.{Bool.{lt-ltb, le-ltb, le-leb, lt-leb}, List.{drop_all, drop_more}}
use Rattle.strip.specs.Numbers.{number_of}
use Rattle.strip_reader.specs.Rows.{row_put}

places : {A : Type 0} → ℕ → ℕ → List A → A → List A
places i zero xs d = []
places i (suc n) xs d = get_or xs i d ∷ places (i + 1) n xs d

places-are : {A : Type 0} (i n : ℕ) (xs : List A) (d : A) → length xs ≡ i + n → places i n xs d ≡ drop i xs
unfolding places
places-are i zero xs d long = sym (drop_all i xs (omega arith))
places-are i (suc n) xs d long =
    ap (λ rest. get_or xs i d ∷ rest) (places-are (i + 1) n xs d (omega (arith, long))) ∙ sym (drop_more xs i d (omega (arith, long)))

pub number-of-four : (bytes : List ℕ) (n : ℕ) → length bytes ≡ 4 → n ≡ from_le_bytes w32 bytes → n ≡ number_of bytes
unfolding places number_of
number-of-four bytes n long is =
    let four : get_or bytes 0 0 ∷ get_or bytes 1 0 ∷ get_or bytes 2 0 ∷ get_or bytes 3 0 ∷ [] ≡ bytes = places-are 0 4 bytes 0 long in
    let sum : get_or bytes 0 0 + 256 * (get_or bytes 1 0 + 256 * (get_or bytes 2 0 + 256 * (get_or bytes 3 0 + 0))) ≡ n = omega (arith, is) in
    rw (← four) (sym sum)

module _ (frame map_number : ℕ) (t o : List ℕ) (curves : List (List ℕ)) where
  pub bone-numbers :
      (m x y z r : ℕ)
      → length t ≡ 3 → length o ≡ 4 → length curves ≡ 4
      → m ≡ map_number
      → x ≡ number_of (get_or curves 0 [])
      → y ≡ number_of (get_or curves 1 [])
      → z ≡ number_of (get_or curves 2 [])
      → r ≡ number_of (get_or curves 3 [])
      → frame ∷ m ∷ get_or t 0 0 ∷ get_or t 1 0 ∷ get_or t 2 0 ∷ get_or o 0 0 ∷ get_or o 1 0 ∷ get_or o 2 0 ∷ get_or o 3 0 ∷ x ∷ y ∷ z ∷ r ∷ []
      ≡ frame ∷ map_number ∷ (t ++ o ++ map number_of curves)
  unfolding places
  bone-numbers m x y z r lt lo lc em ex ey ez er =
      let three : get_or t 0 0 ∷ get_or t 1 0 ∷ get_or t 2 0 ∷ [] ≡ t = places-are 0 3 t 0 lt in
      let four : get_or o 0 0 ∷ get_or o 1 0 ∷ get_or o 2 0 ∷ get_or o 3 0 ∷ [] ≡ o = places-are 0 4 o 0 lo in
      let of_curves : get_or curves 0 [] ∷ get_or curves 1 [] ∷ get_or curves 2 [] ∷ get_or curves 3 [] ∷ [] ≡ curves = places-are 0 4 curves [] lc in
      let numbers : x ∷ y ∷ z ∷ r ∷ [] ≡ map number_of curves = rw (ex, ey, ez, er) (ap (map number_of) of_curves) in
      rw em (ap (λ (rest : List ℕ). frame ∷ map_number ∷ get_or t 0 0 ∷ get_or t 1 0 ∷ get_or t 2 0 ∷ get_or o 0 0 ∷ get_or o 1 0 ∷ get_or o 2 0 ∷ get_or o 3 0 ∷ rest) numbers
      ∙ ap (λ (ts : List ℕ). frame ∷ map_number ∷ (ts ++ (get_or o 0 0 ∷ get_or o 1 0 ∷ get_or o 2 0 ∷ get_or o 3 0 ∷ []) ++ map number_of curves)) three
      ∙ ap (λ (os : List ℕ). frame ∷ map_number ∷ (t ++ os ++ map number_of curves)) four)

or-true : (b : Bool) → b || true ≡ true
or-true true = refl
or-true false = refl

module _ (first number : ℕ) (row slice : List ℕ) where
  pub row-before : number < first → slice ≡ row_put first number row slice
  unfolding row_put
  row-before less = rw (lt-ltb number first less) refl

  pub row-outside : length slice / 16 ≤ number - first → slice ≡ row_put first number row slice
  unfolding row_put
  row-outside full = rw (le-leb (length slice / 16) (number - first) full, or-true) refl

  pub row-there : first ≤ number → number - first < length slice / 16 → row_put first number row slice ≡ take ((number - first) * 16) slice ++ row ++ drop ((number - first) * 16 + 16) slice
  unfolding row_put
  row-there low room = rw (le-ltb number first low, lt-leb (length slice / 16) (number - first) room) refl

  pub row-copied : (new : List ℕ) → first ≤ number → number - first < length slice / 16 → new ≡ row → take ((number - first) * 16) slice ++ (new ++ drop ((number - first) * 16 + 16 - (number - first) * 16) (drop ((number - first) * 16) slice)) ≡ row_put first number row slice
  row-copied new low room same =
      let place = (number - first) * 16 in
      let behind : place + (place + 16 - place) ≡ place + 16 = omega arith in
      ap (λ (xs : List ℕ). take place slice ++ (xs ++ drop (place + 16 - place) (drop place slice))) same
      ∙ sym (append_assoc (take place slice) row (drop (place + 16 - place) (drop place slice)))
      ∙ ap (λ (xs : List ℕ). take place slice ++ row ++ xs) (drop-drop (place + 16 - place) place slice ∙ ap (λ (n : ℕ). drop n slice) behind)
      ∙ sym (row-there low room)

pub ruleset curve_numbers = (number-of-four)
