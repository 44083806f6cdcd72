-- The entries of a list, one after the other. Assumes nothing.
use Rattle.std.proofs.Common.{◌≡◌, ℕ, zero, suc, ◌+◌, ◌-◌, ◌*◌, ◌≤◌, ◌<◌, Bool, true, false, cond, List, [], ◌∷◌, length, take, drop, get_or, Option, Some, None, leb, refl, ap, arith, length-drop}
use Rattle.std.proofs.lemmas.{Bool.{le-leb, leb-true}, List.{take_all}, Option.{same_Some, none-some}}
use Rattle.std.specs.Option.{option_map}
use Rattle.asset_references.specs.References.{Reference, reference, first_reference, followed, references_within, references}

pub first_whole : (list : List ℕ) (w : ℕ) → w ≡ get_or list 1 0 + get_or list 2 0 * 256 → 3 ≤ length list → w ≤ length list - 3 → Some (reference (get_or list 0 0) (take (3 + w - 3) (drop 3 list)), take (length list - (3 + w)) (drop (3 + w) list)) ≡ first_reference list
unfolding first_reference
first_whole list w e some fits =
    let same : 3 + w ≡ 3 + (get_or list 1 0 + 256 * get_or list 2 0) = omega arith in
    let inside = le-leb (3 + (get_or list 1 0 + 256 * get_or list 2 0)) (length list) (omega arith) in
    let rest = take_all (length list - (3 + w)) (drop (3 + w) list) (rw length-drop (omega arith)) in
    rw (rest, same, inside) refl

-- What stands behind an entry is shorter by at least three bytes.
pub shorter : (list : List ℕ) (first : Reference) (others : List ℕ) → first_reference list ≡ Some (first, others) → length others < length list
unfolding first_reference
shorter list first others e = go (leb end (length list)) refl e
  where
    end : ℕ
    end = 3 + (get_or list 1 0 + 256 * get_or list 2 0)

    go : (t : Bool) → leb end (length list) ≡ t → cond {A = Option (Reference × List ℕ)} t (Some (reference (get_or list 0 0) (take (end - 3) (drop 3 list)), drop end list)) None ≡ Some (first, others) → length others < length list
    go true test e =
        let inside = leb-true end (length list) test in
        let same : drop end list ≡ others = ap (λ (p : Reference × List ℕ). p.1) (same_Some _ _ e) in
        let long : length others ≡ length list - end = rw (← same, length-drop) refl in
        omega arith
    go false test e = absurd (none-some _ e)

-- Any bound that is no less than the bytes gives the same entries.
enough : (n m : ℕ) (list : List ℕ) → length list ≤ n → length list ≤ m → references_within n list ≡ references_within m list
unfolding references_within
enough n m [] few-n few-m = refl
enough zero m (b ∷ bytes) few-n few-m = absurd (omega arith)
enough (suc n) zero (b ∷ bytes) few-n few-m = absurd (omega arith)
enough (suc n) (suc m) (b ∷ bytes) few-n few-m = go (first_reference (b ∷ bytes)) refl (enough n m)
  where
    go : (o : Option (Reference × List ℕ)) → first_reference (b ∷ bytes) ≡ o → ((list : List ℕ) → length list ≤ n → length list ≤ m → references_within n list ≡ references_within m list) → followed o (references_within n) ≡ followed o (references_within m)
    go None is again = refl
    go (Some (first, others)) is again =
        let less = shorter (b ∷ bytes) first others is in
        ap (option_map (λ rs. first ∷ rs)) (again others (omega arith) (omega arith))

pub behind-first : (list : List ℕ) → 0 < length list → references list ≡ followed (first_reference list) references
unfolding references_within
behind-first [] some = absurd (omega arith)
behind-first (b ∷ bytes) some = go (first_reference (b ∷ bytes)) refl
  where
    go : (o : Option (Reference × List ℕ)) → first_reference (b ∷ bytes) ≡ o → followed o (references_within (length bytes)) ≡ followed o references
    go None is = refl
    go (Some (first, others)) is =
        let less = shorter (b ∷ bytes) first others is in
        ap (option_map (λ rs. first ∷ rs)) (enough (length bytes) (length others) others (omega arith) (omega arith))

pub none-behind : (list : List ℕ) → length list ≡ 0 → references list ≡ Some []
unfolding references_within
none-behind [] none = refl
none-behind (b ∷ bytes) none = absurd (omega arith)

-- There are no more entries than the bound.
pub no-more : (n : ℕ) (list : List ℕ) (rs : List Reference) → references_within n list ≡ Some rs → length rs ≤ n
unfolding references_within
no-more n [] rs e = let same = ap length (same_Some [] rs e) in omega arith
no-more zero (b ∷ bytes) rs e = absurd (none-some rs e)
no-more (suc n) (b ∷ bytes) rs e = go (first_reference (b ∷ bytes)) e (no-more n)
  where
    go : (o : Option (Reference × List ℕ)) → followed o (references_within n) ≡ Some rs → ((list : List ℕ) (rs : List Reference) → references_within n list ≡ Some rs → length rs ≤ n) → length rs ≤ suc n
    go None e again = absurd (none-some rs e)
    go (Some (first, others)) e again = behind (references_within n others) refl e
      where
        behind : (o : Option (List Reference)) → references_within n others ≡ o → option_map (λ rs. first ∷ rs) o ≡ Some rs → length rs ≤ suc n
        behind None later e = absurd (none-some rs e)
        behind (Some more) later e =
            let few = again others more later in
            let same = ap length (same_Some (first ∷ more) rs e) in
            omega arith

pub ruleset split_first_reference = (first_whole)
