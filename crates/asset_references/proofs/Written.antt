-- Entries written one behind the other, and read again (specs, Written). Assumes nothing.
use Rattle.std.proofs.Common.{◌≡◌, ℕ, zero, suc, ◌+◌, ◌-◌, ◌*◌, ◌/◌, ◌%◌, ◌<◌, ◌≤◌, Bool, true, false, cond, leb, List, [], ◌∷◌, ◌++◌, length, take, drop, get_or, Option, Some, None, refl, sym, ap, ◌∙◌, subst, arith, length-append, length-take, length-drop, drop-drop}
use Rattle.std.proofs.lemmas.{Bool.{le-leb, leb-true}, List.{take-append-drop, Elements.{All-drop}}, Option.{same_Some, none-some}}
use Rattle.std.proofs.Math.Seq.{take-append_seam, drop-append_seam}
use native.Mathlib.Nat.{div-add-mod'}
use Rattle.std.specs.{List.{All}, Option.{option_map}}
use Rattle.asset_references.specs.References.{Reference, reference, first_reference, followed, references}
use Rattle.asset_references.specs.Written.{entry_bytes, written, Written}
use Rattle.asset_references.proofs.References.{shorter, behind-first, none-behind}

-- An entry that is written stands at the front.
first-written : (r : Reference) (others : List ℕ) → length r.text < 65536 → first_reference (entry_bytes r ++ others) ≡ Some (r, others)
unfolding first_reference
first-written r others short =
    let bytes = entry_bytes r ++ others in
    let n = length r.text in
    let end : 3 + (n % 256 + 256 * (n / 256)) ≡ 3 + n = omega (arith, div-add-mod' n 256) in
    let whole : leb (3 + n) (length bytes) ≡ true = le-leb (3 + n) (length bytes) (omega (arith, length-append r.text others)) in
    let text : take (3 + n - 3) (r.text ++ others) ≡ r.text = ap (λ (k : ℕ). take k (r.text ++ others)) (omega arith) ∙ take-append_seam r.text others in
    let rest : drop (3 + n) bytes ≡ others = sym (drop-drop n 3 bytes) ∙ drop-append_seam r.text others in
    rw (end, whole, text, rest) refl

read-written : (rs : List Reference) → All (λ r. length r.text < 65536) rs → references (written rs) ≡ Some rs
read-written [] short = none-behind [] refl
read-written (r ∷ rs) short =
    let some : 0 < length (written (r ∷ rs)) = omega arith in
    behind-first (written (r ∷ rs)) some
    ∙ ap (λ o. followed o references) (first-written r (written rs) (short 0 r (omega arith)))
    ∙ ap (option_map (λ others. r ∷ others)) (read-written rs (λ k d less. short (suc k) d (omega arith)))

abbrev Bytes : List ℕ → Type 0
Bytes list = All (λ b. b < 256) list

-- What stands at the front is the entry, written.
front-written : (list : List ℕ) (first : Reference) (others : List ℕ) → Bytes list → first_reference list ≡ Some (first, others) → (entry_bytes first ++ others ≡ list) × Bytes others
unfolding first_reference
front-written list first others bytes e = go (leb end (length list)) refl e
  where
    end : ℕ
    end = 3 + (get_or list 1 0 + 256 * get_or list 2 0)

    found : Reference × List ℕ
    found = (reference (get_or list 0 0) (take (end - 3) (drop 3 list)), drop end list)

    front : (xs : List ℕ) → 3 ≤ length xs → xs ≡ get_or xs 0 0 ∷ get_or xs 1 0 ∷ get_or xs 2 0 ∷ drop 3 xs
    front [] three = absurd (omega arith)
    front (a ∷ []) three = absurd (omega arith)
    front (a ∷ (b ∷ [])) three = absurd (omega arith)
    front (a ∷ (b ∷ (c ∷ xs))) three = refl

    same : end ≤ length list → entry_bytes found.0 ++ found.1 ≡ list
    same inside =
        let low = bytes 1 0 (omega arith) in
        let high = bytes 2 0 (omega arith) in
        let n : length (take (end - 3) (drop 3 list)) ≡ get_or list 1 0 + 256 * get_or list 2 0 = simp (length-take, length-drop) (omega arith) in
        let low-is : (get_or list 1 0 + 256 * get_or list 2 0) % 256 ≡ get_or list 1 0 = omega arith in
        let high-is : (get_or list 1 0 + 256 * get_or list 2 0) / 256 ≡ get_or list 2 0 = omega arith in
        let rest : drop end list ≡ drop (end - 3) (drop 3 list) = sym (drop-drop (end - 3) 3 list ∙ ap (λ (k : ℕ). drop k list) (omega arith)) in
        rw (n, low-is, high-is, rest, take-append-drop (end - 3) (drop 3 list)) (sym (front list (omega arith)))

    go : (t : Bool) → leb end (length list) ≡ t → cond {A = Option (Reference × List ℕ)} t (Some found) None ≡ Some (first, others) → (entry_bytes first ++ others ≡ list) × Bytes others
    go true test e = subst (λ (p : Reference × List ℕ). (entry_bytes p.0 ++ p.1 ≡ list) × Bytes p.1) (same_Some _ _ e) (same (leb-true end (length list) test), All-drop (λ b. b < 256) end list bytes)
    go false test e = absurd (none-some _ e)

written-again : (n : ℕ) (list : List ℕ) (rs : List Reference) → length list ≤ n → Bytes list → references list ≡ Some rs → written rs ≡ list
written-again n [] rs few bytes e = ap written (sym (same_Some _ _ (sym (none-behind [] refl) ∙ e)))
written-again zero (b ∷ list) rs few bytes e = absurd (omega arith)
written-again (suc n) (b ∷ list) rs few bytes e = go (first_reference (b ∷ list)) refl (sym (behind-first (b ∷ list) (omega arith)) ∙ e) (written-again n)
  where
    go : (o : Option (Reference × List ℕ)) → first_reference (b ∷ list) ≡ o → followed o references ≡ Some rs → ((list : List ℕ) (rs : List Reference) → length list ≤ n → Bytes list → references list ≡ Some rs → written rs ≡ list) → written rs ≡ b ∷ list
    go None is e again = absurd (none-some rs e)
    go (Some (first, others)) is e again = behind (references others) refl e
      where
        behind : (o : Option (List Reference)) → references others ≡ o → option_map (λ rs. first ∷ rs) o ≡ Some rs → written rs ≡ b ∷ list
        behind None later e = absurd (none-some rs e)
        behind (Some more) later e =
            let less = shorter (b ∷ list) first others is in
            let (front, rest) = front-written (b ∷ list) first others bytes is in
            ap written (sym (same_Some (first ∷ more) rs e))
            ∙ ap (λ (xs : List ℕ). entry_bytes first ++ xs) (again others more (omega arith) rest later)
            ∙ front

pub written-is : Written
written-is = record { read = read-written; again = λ list rs bytes e. written-again (length list) list rs (omega arith) bytes e }
