-- Lists by their elements: what holds of all of them holds of the one in a place; a list that is given by its numbers has each in its
-- place, and is any other that has the same ones there. Assumes nothing.
use Rattle.std.proofs.Common.{◌≡◌, ℕ, zero, suc, ◌<◌, List, [], ◌∷◌, ◌++◌, length, get_or, Some, refl, sym, ◌∙◌, subst, arith}
use Rattle.std.specs.List.{AllByRecursion, slice_get}
use Rattle.std.proofs.lemmas.Option.{same_Some}
use Rattle.clip.proofs.First.{below_suc}
use Rattle.strip.specs.Work.{each}
use Rattle.strip.proofs.ByTrack.{length-each}

module _ {A : Type 0} (P : A → Type 0) where
  pub all-get : (xs : List A) → AllByRecursion P xs → (i : ℕ) (x : A) → slice_get xs i ≡ Some x → P x
  all-get [] all i x e = absurd (let z : ◌≡◌ {A = ℕ} 0 1 = cc in omega arith)
  all-get (y ∷ ys) all zero x e = subst P (same_Some y x e) all.0
  all-get (y ∷ ys) all (suc i) x e = all-get ys all.1 i x e

  pub all-get_or : (d : A) → P d → (xs : List A) → AllByRecursion P xs → (i : ℕ) → P (get_or xs i d)
  all-get_or d of_d [] all i = of_d
  all-get_or d of_d (x ∷ xs) all zero = all.0
  all-get_or d of_d (x ∷ xs) all (suc i) = all-get_or d of_d xs all.1 i

  pub all-append : (xs ys : List A) → AllByRecursion P xs → AllByRecursion P ys → AllByRecursion P (xs ++ ys)
  all-append [] ys all others = others
  all-append (x ∷ xs) ys all others = (all.0, all-append xs ys all.1 others)

module _ {A : Type 0} where
  earlier : (xs : List A) (y : A) (i : ℕ) → i < length xs → slice_get (xs ++ y ∷ []) i ≡ slice_get xs i
  earlier [] y i lt = absurd (omega arith)
  earlier (x ∷ xs) y zero lt = refl
  earlier (x ∷ xs) y (suc i) lt = earlier xs y i (omega arith)

  last : (xs : List A) (y : A) → slice_get (xs ++ y ∷ []) (length xs) ≡ Some y
  last [] y = refl
  last (x ∷ xs) y = last xs y

  pub get-each : (n : ℕ) (f : ℕ → A) (i : ℕ) → i < n → slice_get (each n f) i ≡ Some (f i)
  unfolding each
  get-each zero f i lt = absurd (omega arith)
  get-each (suc n) f i lt =
      let many = length-each n f in
      below_suc i n lt
      (λ is_last. rw is_last (subst (λ (k : ℕ). slice_get (each n f ++ f n ∷ []) k ≡ Some (f n)) many (last (each n f) (f n))))
      (λ less. earlier (each n f) (f n) i (omega (arith, many, less)) ∙ get-each n f i less)

  same-lists : (xs ys : List A) → length xs ≡ length ys → ((i : ℕ) → i < length xs → slice_get xs i ≡ slice_get ys i) → xs ≡ ys
  same-lists [] [] long same = refl
  same-lists [] (y ∷ ys) long same = absurd (omega (arith, long))
  same-lists (x ∷ xs) [] long same = absurd (omega (arith, long))
  same-lists (x ∷ xs) (y ∷ ys) long same =
      let first = same_Some x y (same 0 (omega arith)) in
      rw (first, same-lists xs ys (omega (arith, long)) (λ i less. same (suc i) (omega (arith, less))))

  pub each-is : (xs : List A) (n : ℕ) (f : ℕ → A) → n ≡ length xs → ((i : ℕ) → i < n → slice_get xs i ≡ Some (f i)) → each n f ≡ xs
  each-is xs n f many same =
      let long = length-each n f in
      same-lists (each n f) xs (omega (arith, long, many)) (λ i less. get-each n f i (omega (arith, less, long)) ∙ sym (same i (omega (arith, less, long))))

pub each-same : {A : Type 0} (n : ℕ) (f g : ℕ → A) → ((i : ℕ) → i < n → f i ≡ g i) → each n f ≡ each n g
unfolding each
each-same zero f g e = refl
each-same (suc n) f g e = rw (each-same n f g (λ i less. e i (omega (arith, less))), e n (omega arith))
