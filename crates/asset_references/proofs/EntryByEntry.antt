-- A list passed entry by entry: what was met so far and what stands behind it give what the whole list gives. Assumes nothing.
use Rattle.std.proofs.Common.{◌≡◌, ℕ, ◌+◌, ◌<◌, Bool, true, false, cond, List, [], length, Option, Some, None, ◌&&◌, refl, sym, ap, ◌∙◌, arith}
use Rattle.std.specs.{List.{list_all, position_from}, Option.{option_or}}
use Rattle.layout.specs.{Refusals.{list_cut_off, not_ascii}, Walk.{refusal, Answer, answered, declined}}
use Rattle.asset_references.specs.Normalize.{normalize_path}
use Rattle.asset_references.specs.References.{Reference, first_reference, followed, references}
use Rattle.asset_references.specs.Index.{is_model_of, all_ascii, index_in}
use Rattle.asset_references.proofs.References.{shorter, behind-first, none-behind}

abbrev pub index_behind : List ℕ → Bool → Option ℕ → ℕ → Option (List Reference) → Answer (Option ℕ)
index_behind text ascii found number None = declined (refusal list_cut_off [])
index_behind text ascii found number (Some rs) =
    cond (ascii && list_all (λ r. all_ascii r.text) rs) (answered (option_or found (position_from (is_model_of text) number rs))) (declined (refusal not_ascii []))

pub at-first : (path text : List ℕ) (ascii : Bool) (rs : Option (List Reference)) → text ≡ normalize_path path → ascii ≡ all_ascii path → index_in path rs ≡ index_behind text ascii None 0 rs
at-first path text ascii None text-is ascii-is = refl
at-first path text ascii (Some rs) text-is ascii-is = rw (text-is, ascii-is) refl

module _ (text : List ℕ) where
  module _ (ascii : Bool) (found : Option ℕ) (number : ℕ) (list : List ℕ) where
    pub index-cut : 0 < length list → None ≡ first_reference list → index_behind text ascii found number (references list) ≡ declined (refusal list_cut_off [])
    index-cut some none = ap (index_behind text ascii found number) (behind-first list some ∙ ap (λ o. followed o references) (sym none))

    pub index-more : (first : Reference) (others : List ℕ) (also : Bool) (now : Option ℕ) → Some (first, others) ≡ first_reference list → also ≡ all_ascii first.text → now ≡ option_or found (cond (is_model_of text first) (Some number) None) → index_behind text ascii found number (references list) ≡ index_behind text (ascii && also) now (number + 1) (references others)
    index-more first others also now is ascii-is now-is =
        let less = shorter list first others (sym is) in
        let passed : references list ≡ followed (Some (first, others)) references = behind-first list (omega arith) ∙ ap (λ o. followed o references) (sym is) in
        ap (index_behind text ascii found number) passed ∙ rw (ascii-is, now-is) (go (references others))
      where
        both : (a : Bool) (f : Option ℕ) (p : Bool) (one all : Bool) (later : Option ℕ) → cond (a && (one && all)) (answered (option_or f (cond p (Some number) later))) (declined (refusal not_ascii [])) ≡ cond ((a && one) && all) (answered (option_or (option_or f (cond p (Some number) None)) later)) (declined (refusal not_ascii []))
        both true (Some n) p one all later = refl
        both true None true one all later = refl
        both true None false one all later = refl
        both false f p one all later = refl

        go : (o : Option (List Reference)) → index_behind text ascii found number (followed (Some (first, others)) (λ l. o)) ≡ index_behind text (ascii && all_ascii first.text) (option_or found (cond (is_model_of text first) (Some number) None)) (number + 1) o
        go None = refl
        go (Some rs) = both ascii found (is_model_of text first) (all_ascii first.text) (list_all (λ r. all_ascii r.text) rs) (position_from (is_model_of text) (number + 1) rs)

  module _ (found : Option ℕ) (number : ℕ) (list : List ℕ) (none : length list ≡ 0) where
    pub index-refused : index_behind text false found number (references list) ≡ declined (refusal not_ascii [])
    index-refused = ap (index_behind text false found number) (none-behind list none)

    pub index-found : index_behind text true found number (references list) ≡ answered found
    index-found = ap (index_behind text true found number) (none-behind list none) ∙ go found
      where
        go : (f : Option ℕ) → answered (option_or f None) ≡ answered f
        go None = refl
        go (Some n) = refl

pub ruleset index = (at-first, index-cut, index-refused, index-found)
