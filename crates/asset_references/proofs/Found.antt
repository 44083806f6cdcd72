-- What an answered number and none say (specs, Run): the place of the first entry that passes a test, and that it is the test's text in any
-- letter case. Assumes nothing.
use Rattle.std.proofs.Common.{◌≡◌, ℕ, zero, suc, ◌+◌, ◌<◌, ◌≤◌, Bool, true, false, cond, ◌&&◌, ◌||◌, List, [], ◌∷◌, length, ltb, Option, Some, None, Result, Ok, Err, ◌==◌, refl, sym, ap, ◌∙◌, subst, arith, true≢false}
use Rattle.std.proofs.lemmas.{Bool.{eqb-true, eq-eqb, ltb-false}, Option.{same_Some, none-some}}
use Rattle.std.specs.Cmp.Lexicographic.{same_text, other_text}
use Rattle.std.specs.{List.{slice_get, list_all, position_from}, Str.{str_eq_ignore_ascii_case}}
use Rattle.layout.specs.{Refusals.{too_long, list_cut_off, not_ascii}, Walk.{refusal, Answer, answered, declined}}
use Rattle.section.specs.Limits.{edition1}
use Rattle.asset_references.specs.Normalize.{normalize_path}
use Rattle.asset_references.specs.References.{Reference, references}
use Rattle.asset_references.specs.Index.{model, is_model_of, all_ascii, index_in, asset_reference_index_for_path}
use Rattle.asset_references.specs.Answers.{index_read}
use Rattle.asset_references.proofs.References.{no-more}
use Rattle.asset_references.specs.Run.{Run, IsModel, First, Nowhere, Found}
use Rattle.asset_references.specs.declared.refusal.AssetRefusal.{AssetRefusal}

-- The first element that passes.
record Passes {A : Type 0} (p : A → Bool) (xs : List A) (k : ℕ) : Type 0 where
  x : A
  at : slice_get xs k ≡ Some x
  yes : p x ≡ true
  before : (j : ℕ) (y : A) → j < k → slice_get xs j ≡ Some y → p y ≡ false

module _ {A : Type 0} (p : A → Bool) where
  behind : (x : A) (xs : List A) (k : ℕ) → p x ≡ false → Passes p xs k → Passes p (x ∷ xs) (suc k)
  behind x xs k fails later =
      record {
        x = later.x;
        at = later.at;
        yes = later.yes;
        before = earlier;
      }
    where
      earlier : (j : ℕ) (y : A) → j < suc k → slice_get (x ∷ xs) j ≡ Some y → p y ≡ false
      earlier zero y less is = subst (λ z. p z ≡ false) (same_Some x y is) fails
      earlier (suc j) y less is = later.before j y (omega arith) is

  -- The numbers begin at i.
  first-passes : (i : ℕ) (xs : List A) (n : ℕ) → position_from p i xs ≡ Some n → (k : ℕ) × (n ≡ i + k) × Passes p xs k
  first-passes i [] n e = absurd (none-some n e)
  first-passes i (x ∷ xs) n e = go (p x) refl e (first-passes (i + 1) xs n)
    where
      go : (t : Bool) → p x ≡ t → cond t (Some i) (position_from p (i + 1) xs) ≡ Some n → (position_from p (i + 1) xs ≡ Some n → (k : ℕ) × (n ≡ (i + 1) + k) × Passes p xs k) → (k : ℕ) × (n ≡ i + k) × Passes p (x ∷ xs) k
      go true holds e later =
          let here : i ≡ n = same_Some i n e in
          (0, omega arith, record { x = x; at = refl; yes = holds; before = λ j y less is. absurd (omega (arith, less)) })
      go false fails e later =
          let (k, is, passes) = later e in
          (suc k, omega (arith, is), behind x xs k fails passes)

  none-passes : (i : ℕ) (xs : List A) → position_from p i xs ≡ None → (j : ℕ) (y : A) → slice_get xs j ≡ Some y → p y ≡ false
  none-passes i [] e = λ j y is. absurd (none-some y is)
  none-passes i (x ∷ xs) e = go (p x) refl e (none-passes (i + 1) xs)
    where
      go : (t : Bool) → p x ≡ t → cond t (Some i) (position_from p (i + 1) xs) ≡ None → (position_from p (i + 1) xs ≡ None → (j : ℕ) (y : A) → slice_get xs j ≡ Some y → p y ≡ false) → (j : ℕ) (y : A) → slice_get (x ∷ xs) j ≡ Some y → p y ≡ false
      go true holds e later = absurd (none-some i (sym e))
      go false fails e later = λ j y is. other j y is
        where
          other : (j : ℕ) (y : A) → slice_get (x ∷ xs) j ≡ Some y → p y ≡ false
          other zero y is = subst (λ z. p z ≡ false) (same_Some x y is) fails
          other (suc j) y is = later e j y is

and-left : (a b : Bool) → (a && b) ≡ true → a ≡ true
and-left true b e = refl
and-left false b e = e

and-right : (a b : Bool) → (a && b) ≡ true → b ≡ true
and-right true b e = e
and-right false b e = absurd (true≢false (sym e))

module _ (path : List ℕ) (r : Reference) where
  is-model : is_model_of (normalize_path path) r ≡ true → IsModel path r
  is-model e =
      record {
        kind = eqb-true r.kind model (and-left (r.kind == model) _ e);
        equal = same_text _ _ (sym (and-right (r.kind == model) _ e));
      }

  no-model : is_model_of (normalize_path path) r ≡ false → IsModel path r → ⊥
  no-model e m = go (str_eq_ignore_ascii_case r.text (normalize_path path)) refl
    where
      of-kind : (r.kind == model) ≡ true
      of-kind = eq-eqb r.kind model m.kind

      go : (t : Bool) → str_eq_ignore_ascii_case r.text (normalize_path path) ≡ t → ⊥
      go true same = true≢false (sym (ap (λ (k : Bool). k && true) of-kind) ∙ ap (λ (t : Bool). (r.kind == model) && t) (sym same) ∙ e)
      go false other = other_text _ _ (sym other) m.equal

-- What an accepted run was given.
record Given (x : Run) (found : Option ℕ) : Type 0 where
  entries : List Reference
  listed : references x.list ≡ Some entries
  is : position_from (is_model_of (normalize_path x.path)) 0 entries ≡ found
  short : length x.list ≤ edition1.bytes

or-right : (a b : Bool) → (a || b) ≡ false → b ≡ false
or-right true b e = absurd (true≢false e)
or-right false b e = e

different : {A : Type 0} (found : A) (number : ℕ) → answered found ≡ declined (refusal number []) → ⊥
different found number e = let z : ◌≡◌ {A = ℕ} 0 1 = cc in omega arith

given : (x : Run) (found : Option ℕ) → x.answer ≡ Ok found → Given x found
given x found e = go (ltb edition1.bytes (length x.path) || ltb edition1.bytes (length x.list)) refl (sym (ap index_read e) ∙ x.call)
  where
    entries-given : length x.list ≤ edition1.bytes → (o : Option (List Reference)) → references x.list ≡ o → answered found ≡ index_in x.path o → Given x found
    entries-given short None listed e = absurd (different found list_cut_off e)
    entries-given short (Some rs) listed e = ascii (all_ascii x.path && list_all (λ r. all_ascii r.text) rs) e
      where
        ascii : (t : Bool) → answered found ≡ cond t (answered (position_from (is_model_of (normalize_path x.path)) 0 rs)) (declined (refusal not_ascii [])) → Given x found
        ascii true e = record { entries = rs; listed = listed; is = cc; short = short }
        ascii false e = absurd (different found not_ascii e)

    go : (t : Bool) → (ltb edition1.bytes (length x.path) || ltb edition1.bytes (length x.list)) ≡ t → answered found ≡ cond t (declined (refusal too_long [])) (index_in x.path (references x.list)) → Given x found
    go true test e = absurd (different found too_long e)
    go false test e = entries-given (ltb-false edition1.bytes (length x.list) (or-right _ _ test)) (references x.list) refl e

found-number : (x : Run) (k : ℕ) → x.answer ≡ Ok (Some k) → First x k
found-number x k e =
    let g = given x (Some k) e in
    let (j, is, passes) = first-passes (is_model_of (normalize_path x.path)) 0 g.entries k g.is in
    let same : j ≡ k = omega (arith, is) in
    record {
      entries = g.entries;
      listed = g.listed;
      entry = passes.x;
      at = ap (slice_get g.entries) (sym same) ∙ passes.at;
      is = is-model x.path passes.x passes.yes;
      before = λ i other less at. no-model x.path other (passes.before i other (omega (arith, less, same)) at);
    }

within : {A : Type 0} (xs : List A) (k : ℕ) (x : A) → slice_get xs k ≡ Some x → k < length xs
within [] k x is = absurd (none-some x is)
within (y ∷ xs) zero x is = omega arith
within (y ∷ xs) (suc k) x is = let less = within xs k x is in omega arith

-- An entry takes bytes, so a number is below the list's length, and that is no more than the limit.
found-below-limit : (x : Run) (k : ℕ) → x.answer ≡ Ok (Some k) → k < edition1.bytes
found-below-limit x k e =
    let first = found-number x k e in
    let few = no-more (length x.list) x.list first.entries first.listed in
    let below = within first.entries k first.entry first.at in
    let short = (given x (Some k) e).short in
    omega arith

found-none : (x : Run) → x.answer ≡ Ok None → Nowhere x
found-none x e =
    let g = given x None e in
    record {
      entries = g.entries;
      listed = g.listed;
      every = λ j other at. no-model x.path other (none-passes (is_model_of (normalize_path x.path)) 0 g.entries g.is j other at);
    }

-- An answer is told back from what is read of it.
abbrev back : Answer (Option ℕ) → Result (Option ℕ) AssetRefusal
back (answered found) = Ok found
back (declined why) = Err (cond (why.number == list_cut_off) AssetRefusal.ListCutOff (cond (why.number == not_ascii) AssetRefusal.NotAscii AssetRefusal.TooLong))

back-read : (answer : Result (Option ℕ) AssetRefusal) → back (index_read answer) ≡ answer
back-read (Ok found) = refl
back-read (Err AssetRefusal.TooLong) = refl
back-read (Err AssetRefusal.ListCutOff) = refl
back-read (Err AssetRefusal.NotAscii) = refl

fixed : (x y : Run) → x.path ≡ y.path → x.list ≡ y.list → x.answer ≡ y.answer
fixed x y path list =
    let lent : asset_reference_index_for_path edition1 x.path x.list ≡ asset_reference_index_for_path edition1 y.path y.list = rw (path, list) refl in
    sym (back-read x.answer) ∙ ap back (x.call ∙ lent ∙ sym y.call) ∙ back-read y.answer

pub found : Found
found = record { number = found-number; none = found-none; below_limit = found-below-limit; fixed = fixed }
