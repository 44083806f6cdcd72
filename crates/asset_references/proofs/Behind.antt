-- What stands behind a text, byte by byte; equality and a beginning without regard to ASCII case are what it says. Assumes nothing.
use Rattle.std.proofs.Common.{◌≡◌, ℕ, ◌+◌, ◌<◌, ◌≤◌, Bool, true, false, cond, List, [], ◌∷◌, length, drop, map, get_or, Option, Some, None, ◌==◌, ◌&&◌, refl, ap, ◌∙◌, drop-cons, add-one}
use Rattle.std.proofs.lemmas.List.{drop_all}
use Rattle.std.proofs.Math.Dec.{eqb-suc-zero}
use Rattle.std.specs.{Borrow.{Bor}, Char.{eq_ignore_ascii_case}, List.{starts_with}, Option.{is_some}, Str.{str_eq_ignore_ascii_case}}
use Rattle.asset_references.specs.Behind.{behind}
use Rattle.asset_references.specs.{Answers.{rest_read}, Normalize.{slash, slashed, one_pass, collapsed, userfile, begins_with_userfile}}

module _ (text : List ℕ) (i : ℕ) where
  pub behind-step : (a : ℕ) (others : List ℕ) → i < length text → behind (a ∷ others) (drop i text) ≡ cond (eq_ignore_ascii_case (get_or text i 0) a) (behind others (drop (i + 1) text)) None
  unfolding behind
  behind-step a others more = rw (drop-cons text i 0 more, add-one) refl

  pub behind-ends : i < length text → behind [] (drop i text) ≡ None
  unfolding behind
  behind-ends more = rw (drop-cons text i 0 more) refl

  pub behind-all : (left : List ℕ) → length text ≤ i → behind left (drop i text) ≡ Some left
  unfolding behind
  behind-all left past = rw (drop_all i text past) refl

pub ruleset stripped = (behind-step, behind-ends, behind-all)

abbrev whole : Option (List ℕ) → Bool
whole None = false
whole (Some []) = true
whole (Some (b ∷ bytes)) = false

equal : (text bytes : List ℕ) → whole (behind text bytes) ≡ str_eq_ignore_ascii_case bytes text
unfolding behind
equal [] [] = refl
equal (a ∷ text) [] = refl
equal [] (b ∷ bytes) = refl
equal (a ∷ text) (b ∷ bytes) = go (eq_ignore_ascii_case b a) (equal text bytes)
  where
    go : (t : Bool) → whole (behind text bytes) ≡ str_eq_ignore_ascii_case bytes text → whole (cond t (behind text bytes) None) ≡ t && str_eq_ignore_ascii_case bytes text
    go true same = same
    go false same = refl

starts : (text needle : List ℕ) → is_some (behind text needle) ≡ starts_with eq_ignore_ascii_case text needle
unfolding behind
starts text [] = refl
starts [] (b ∷ bytes) = refl
starts (a ∷ text) (b ∷ bytes) = go (eq_ignore_ascii_case b a) (starts text bytes)
  where
    go : (t : Bool) → is_some (behind text bytes) ≡ starts_with eq_ignore_ascii_case text bytes → is_some (cond t (behind text bytes) None) ≡ t && starts_with eq_ignore_ascii_case text bytes
    go true same = same
    go false same = refl

empties : (path : List ℕ) → (length path == 0) ≡ whole (Some (collapsed path))
unfolding one_pass
empties [] = refl
empties (b ∷ []) = eqb-suc-zero 0
empties (b ∷ (c ∷ path)) = eqb-suc-zero (length (c ∷ path)) ∙ go (slashed b == slash && slashed c == slash)
  where
    go : (t : Bool) → false ≡ whole (Some (cond t (slash ∷ one_pass (map slashed path)) (slashed b ∷ one_pass (map slashed (c ∷ path)))))
    go true = refl
    go false = refl

pub text-left : (rest text entry : List ℕ) → Some (collapsed rest) ≡ behind text entry → (length rest == 0) ≡ str_eq_ignore_ascii_case entry text
text-left rest text entry e = empties rest ∙ ap whole e ∙ equal text entry

pub text-none : (text entry : List ℕ) → None ≡ behind text entry → false ≡ str_eq_ignore_ascii_case entry text
text-none text entry e = ap whole e ∙ equal text entry

pub begins-left : (left : Option (Bor (List ℕ))) (text : List ℕ) → rest_read left ≡ behind text userfile → is_some left ≡ begins_with_userfile text
begins-left None text e = ap is_some e ∙ starts text userfile
begins-left (Some rest) text e = ap is_some e ∙ starts text userfile

pub ruleset is_text = (text-left, text-none)

pub ruleset begins = (begins-left)
