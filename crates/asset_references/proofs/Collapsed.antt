-- A path with its slashes collapsed, by what stands at its front. Assumes nothing.
use Rattle.std.proofs.Common.{◌≡◌, ℕ, ◌-◌, Bool, true, false, cond, List, [], ◌∷◌, length, take, drop, get_or, ◌==◌, refl, sym, ◌∙◌, arith, length-drop, true≢false}
use Rattle.std.proofs.Math.Dec.{eqb-suc-zero}
use Rattle.std.proofs.lemmas.{Bool.{eqb-true}, List.{take_all}}
use Rattle.asset_references.specs.Normalize.{slash, backslash, slashed, one_pass, collapsed}

-- A byte that is no slash and becomes none stays.
pub keeps : (b : ℕ) → (slashed b == slash) ≡ false → slashed b ≡ b
keeps b plain = go (b == backslash) plain
  where
    go : (t : Bool) → (cond t slash b == slash) ≡ false → cond t slash b ≡ b
    go true plain = absurd (true≢false plain)
    go false plain = refl

module _ (b : ℕ) (bytes : List ℕ) where
  pub plain-first : (slashed b == slash) ≡ false → b ∷ collapsed bytes ≡ collapsed (b ∷ bytes)
  unfolding one_pass
  plain-first plain = go bytes
    where
      go : (bytes : List ℕ) → b ∷ collapsed bytes ≡ collapsed (b ∷ bytes)
      go [] = rw (keeps b plain) refl
      go (c ∷ bytes) = rw (plain, keeps b plain) refl

  pub slash-alone : (slashed b == slash) ≡ true → (slashed (get_or bytes 0 0) == slash) ≡ false → slash ∷ collapsed bytes ≡ collapsed (b ∷ bytes)
  unfolding one_pass
  slash-alone first second = go bytes second
    where
      go : (bytes : List ℕ) → (slashed (get_or bytes 0 0) == slash) ≡ false → slash ∷ collapsed bytes ≡ collapsed (b ∷ bytes)
      go [] second = rw (eqb-true (slashed b) slash first) refl
      go (c ∷ bytes) second = rw (second, eqb-true (slashed b) slash first) refl

pub two-slashes : (b c : ℕ) (bytes : List ℕ) → (slashed b == slash) ≡ true → (slashed c == slash) ≡ true → slash ∷ collapsed bytes ≡ collapsed (b ∷ (c ∷ bytes))
unfolding one_pass
two-slashes b c bytes first second = rw (first, second) refl

rest : (n : ℕ) (path : List ℕ) → take (length path - n) (drop n path) ≡ drop n path
rest n path = take_all (length path - n) (drop n path) (rw length-drop (omega arith))

pub split-none : (path : List ℕ) → (length path == 0) ≡ true → [] ≡ collapsed path
unfolding one_pass
split-none [] none = refl
split-none (b ∷ bytes) none = absurd (true≢false (sym none ∙ eqb-suc-zero (length bytes)))

pub split-plain : (path : List ℕ) → (length path == 0) ≡ false → (slashed (get_or path 0 0) == slash) ≡ false → get_or path 0 0 ∷ collapsed (take (length path - 1) (drop 1 path)) ≡ collapsed path
split-plain [] some plain = absurd (true≢false some)
split-plain (b ∷ bytes) some plain = rw (rest 1 (b ∷ bytes)) (plain-first b bytes plain)

pub split-alone : (path : List ℕ) → (slashed (get_or path 0 0) == slash) ≡ true → (slashed (get_or path 1 0) == slash) ≡ false → slash ∷ collapsed (take (length path - 1) (drop 1 path)) ≡ collapsed path
split-alone [] first second = absurd (true≢false (sym first))
split-alone (b ∷ bytes) first second = rw (rest 1 (b ∷ bytes)) (slash-alone b bytes first second)

pub split-two : (path : List ℕ) → (slashed (get_or path 0 0) == slash) ≡ true → (slashed (get_or path 1 0) == slash) ≡ true → slash ∷ collapsed (take (length path - 2) (drop 2 path)) ≡ collapsed path
split-two [] first second = absurd (true≢false (sym first))
split-two (b ∷ []) first second = absurd (true≢false (sym second))
split-two (b ∷ (c ∷ bytes)) first second = rw (rest 2 (b ∷ (c ∷ bytes))) (two-slashes b c bytes first second)

pub ruleset split_first = (split-none, split-plain, split-alone, split-two)
