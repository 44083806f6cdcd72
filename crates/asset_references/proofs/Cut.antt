-- The last `userfile/` that opens a text or follows a slash, sought in the path as it stands. Assumes nothing.
use Rattle.std.proofs.Common.{◌≡◌, ℕ, suc, ◌+◌, ◌<◌, ◌≤◌, Bool, true, false, cond, List, [], ◌∷◌, length, drop, get_or, Option, Some, None, ◌==◌, ◌&&◌, refl, sym, ap, ◌∙◌, drop-cons, add-one}
use Rattle.std.proofs.lemmas.List.{drop_all}
use Rattle.std.specs.Option.{option_or, unwrap_or}
use Rattle.asset_references.specs.Normalize.{slash, slashed, one_pass, collapsed, begins_with_userfile, last_userfile}
use Rattle.asset_references.proofs.Collapsed.{keeps, plain-first, slash-alone, two-slashes}

or-none : {A : Type 0} (o : Option A) → option_or o None ≡ o
or-none None = refl
or-none (Some x) = refl

-- A slash is behind the place where it stands: nothing begins with it.
behind-slash : (here : Bool) (text : List ℕ) → last_userfile here (slash ∷ text) ≡ last_userfile true text
unfolding last_userfile
behind-slash true text = or-none (last_userfile true text)
behind-slash false text = or-none (last_userfile true text)

-- What stands behind a slash is behind one, however many there are.
after-slash : (b : ℕ) (path : List ℕ) (here : Bool) → (slashed b == slash) ≡ true → last_userfile here (collapsed (b ∷ path)) ≡ last_userfile true (collapsed path)
after-slash b [] here first = rw (← slash-alone b [] first refl) (behind-slash here (collapsed []))
after-slash b (c ∷ path) here first = go (after-slash c path true) (slashed c == slash) refl
  where
    go : ((slashed c == slash) ≡ true → last_userfile true (collapsed (c ∷ path)) ≡ last_userfile true (collapsed path)) → (t : Bool) → (slashed c == slash) ≡ t → last_userfile here (collapsed (b ∷ (c ∷ path))) ≡ last_userfile true (collapsed (c ∷ path))
    go again true second = ap (last_userfile here) (sym (two-slashes b c path first second)) ∙ behind-slash here (collapsed path) ∙ sym (again second)
    go again false second = ap (last_userfile here) (sym (slash-alone b (c ∷ path) first second)) ∙ behind-slash here (collapsed (c ∷ path))

-- One byte of the path.
abbrev found : Bool → List ℕ → Option (List ℕ)
found here text = cond (here && begins_with_userfile text) (Some text) None

found-slash : (here : Bool) (text : List ℕ) → found here (slash ∷ text) ≡ None
found-slash true text = refl
found-slash false text = refl

slash-begins : (here : Bool) (b : ℕ) (path : List ℕ) → (slashed b == slash) ≡ true → found here (collapsed (b ∷ path)) ≡ None
slash-begins here b [] first = ap (found here) (sym (slash-alone b [] first refl)) ∙ found-slash here (collapsed [])
slash-begins here b (c ∷ path) first = go (slashed c == slash) refl
  where
    go : (t : Bool) → (slashed c == slash) ≡ t → found here (collapsed (b ∷ (c ∷ path))) ≡ None
    go true second = ap (found here) (sym (two-slashes b c path first second)) ∙ found-slash here (collapsed path)
    go false second = ap (found here) (sym (slash-alone b (c ∷ path) first second)) ∙ found-slash here (collapsed (c ∷ path))

step : (here : Bool) (b : ℕ) (path : List ℕ) → last_userfile here (collapsed (b ∷ path)) ≡ option_or (last_userfile (slashed b == slash) (collapsed path)) (found here (collapsed (b ∷ path)))
unfolding last_userfile
step here b path = go (slashed b == slash) refl
  where
    go : (t : Bool) → (slashed b == slash) ≡ t → last_userfile here (collapsed (b ∷ path)) ≡ option_or (last_userfile (slashed b == slash) (collapsed path)) (found here (collapsed (b ∷ path)))
    go true first = rw (slash-begins here b path first, first, or-none (last_userfile true (collapsed path))) (after-slash b path here first)
    go false plain = rw (← plain-first b path plain, keeps b plain) refl

later : (o : Option (List ℕ)) (t : Bool) (text cut : List ℕ) → unwrap_or (option_or o (cond t (Some text) None)) cut ≡ unwrap_or o (cond t text cut)
later None true text cut = refl
later None false text cut = refl
later (Some x) t text cut = refl

module _ (path : List ℕ) (at : ℕ) where
  pub cut-more :
      (here : Bool) (cut cut' : List ℕ)
      → at < length path
      → collapsed cut' ≡ cond (here && begins_with_userfile (collapsed (drop at path))) (collapsed (drop at path)) (collapsed cut)
      → unwrap_or (last_userfile here (collapsed (drop at path))) (collapsed cut) ≡ unwrap_or (last_userfile (slashed (get_or path at 0) == slash) (collapsed (drop (at + 1) path))) (collapsed cut')
  cut-more here cut cut' more is =
      let b = get_or path at 0 in
      let rest = drop (suc at) path in
      let split : drop at path ≡ b ∷ rest = drop-cons path at 0 more in
      let same : cond (here && begins_with_userfile (collapsed (b ∷ rest))) (collapsed (b ∷ rest)) (collapsed cut) ≡ collapsed cut' = ap (λ (p : List ℕ). cond (here && begins_with_userfile (collapsed p)) (collapsed p) (collapsed cut)) (sym split) ∙ sym is in
      ap (λ (p : List ℕ). unwrap_or (last_userfile here (collapsed p)) (collapsed cut)) split
      ∙ ap (λ o. unwrap_or o (collapsed cut)) (step here b rest)
      ∙ later (last_userfile (slashed b == slash) (collapsed rest)) (here && begins_with_userfile (collapsed (b ∷ rest))) (collapsed (b ∷ rest)) (collapsed cut)
      ∙ ap (λ (d : List ℕ). unwrap_or (last_userfile (slashed b == slash) (collapsed rest)) d) same
      ∙ rw add-one refl

  pub cut-all : (here : Bool) (cut : List ℕ) → length path ≤ at → unwrap_or (last_userfile here (collapsed (drop at path))) (collapsed cut) ≡ collapsed cut
  unfolding last_userfile one_pass
  cut-all here cut past = rw (drop_all at path past) refl

pub ruleset cutting = (cut-more, cut-all)
