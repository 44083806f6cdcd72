-- Keys and tracks passed over: those behind them stand where the pass ends. Assumes nothing.
use Rattle.std.proofs.Common.{◌≡◌, Bool, true, false, ℕ, zero, suc, ◌+◌, ◌≤◌, ◌<◌, List, [], ◌∷◌, length, drop, refl, sym, ap, ◌∙◌, arith, length-drop}
use mathlib.Core.Path.{subst}
use Rattle.std.specs.Prelude.{Option, Some, None}
use Rattle.layout.specs.Walk.{Refusal, answered, declined}
use Rattle.clip.proofs.Follow.{answer-is, no_answer}
use Rattle.strip.specs.Strip.{FieldsKey, count_width}
use Rattle.strip_reader.specs.Front.{number}
use Rattle.strip_reader.specs.Key.{Form}
use Rattle.strip_reader.specs.Skip.{skipped, frame_of}
use Rattle.strip_reader.specs.Stands.{KeysAt, TracksAt}
use Rattle.strip_reader.proofs.Skips.{skip-of-key}

-- One more of a list is passed.
drop-more : {A : Type 0} (n : ℕ) (xs : List A) (x : A) (rest : List A) → drop n xs ≡ x ∷ rest → drop (n + 1) xs ≡ rest
drop-more zero [] x rest e = absurd (let z : ◌≡◌ {A = ℕ} 0 (suc (length rest)) = ap length e in omega (arith, z))
drop-more zero (y ∷ ys) x rest e = let z : ys ≡ rest = cc in z
drop-more (suc n) [] x rest e = absurd (let z : ◌≡◌ {A = ℕ} 0 (suc (length rest)) = ap length e in omega (arith, z))
drop-more (suc n) (y ∷ ys) x rest e =
    let more : suc n + 1 ≡ suc (n + 1) = omega arith in
    ap (λ k. drop k (y ∷ ys)) more ∙ drop-more n ys x rest e

abbrev left_of : Option (ℕ × List ℕ) → List ℕ
left_of None = []
left_of (Some read) = read.1

abbrev is_there : {A : Type 0} → Option A → Bool
is_there None = false
is_there (Some a) = true

module _ (form : Form) (strip : List ℕ) where
  -- Where the keys behind the first ones stand, of any keys that stand at a position.
  pub record Passed (at done next : ℕ) : Type 0 where
    pub stand : (ks : List FieldsKey) (behind : List ℕ) → KeysAt form ks (drop at strip) behind → done ≤ length ks → KeysAt form (drop done ks) (drop next strip) behind

  pub none-passed : (at : ℕ) → Passed at 0 at
  none-passed at = record { stand = λ ks behind stand few. stand }

  one-key : (k : FieldsKey) (ks : List FieldsKey) (left behind : List ℕ) (next : ℕ) (frame : ℕ) → KeysAt form (k ∷ ks) left behind → Some (frame, drop next strip) ≡ frame_of (skipped form left) → KeysAt form ks (drop next strip) behind
  one-key k ks left behind next frame stands e =
      let same : Some (frame, drop next strip) ≡ Some (k.frame, stands.0) = e ∙ ap frame_of (skip-of-key k stands.0 form left stands.1) in
      let there : drop next strip ≡ stands.0 = ap left_of same in
      subst (λ (l : List ℕ). KeysAt form ks l behind) (sym there) stands.2

  pub one-passed : (at done next frame after : ℕ) → Passed at done next → Some (frame, drop after strip) ≡ frame_of (skipped form (drop next strip)) → Passed at (done + 1) after
  one-passed at done next frame after p e = record { stand = λ ks behind stands few. go ks behind (drop done ks) refl (p.stand ks behind stands (omega arith)) few }
    where
      go : (ks : List FieldsKey) (behind : List ℕ) (rest : List FieldsKey) → drop done ks ≡ rest → KeysAt form rest (drop next strip) behind → done + 1 ≤ length ks → KeysAt form (drop (done + 1) ks) (drop after strip) behind
      go ks behind [] is stands few = absurd (let l = length-drop done ks in let none = ap length is in omega (arith, l, none, few))
      go ks behind (k ∷ rest) is stands few = subst (λ (l : List FieldsKey). KeysAt form l (drop after strip) behind) (sym (drop-more done ks k rest is)) (one-key k rest (drop next strip) behind after frame stands e)

  none-there : (k : FieldsKey) (ks : List FieldsKey) (left behind : List ℕ) → KeysAt form (k ∷ ks) left behind → None ≡ frame_of (skipped form left) → ⊥
  none-there k ks left behind stands e = let z : ◌≡◌ {A = Bool} false true = ap is_there (e ∙ ap frame_of (skip-of-key k stands.0 form left stands.1)) in cc

  pub no-more : (at count done next : ℕ) → Passed at done next → done < count → None ≡ frame_of (skipped form (drop next strip)) → (ks : List FieldsKey) (behind : List ℕ) → KeysAt form ks (drop at strip) behind → count ≤ length ks → ⊥
  no-more at count done next p more e ks behind stands many = go (drop done ks) refl (p.stand ks behind stands (omega arith))
    where
      go : (rest : List FieldsKey) → drop done ks ≡ rest → KeysAt form rest (drop next strip) behind → ⊥
      go [] is stands = absurd (let l = length-drop done ks in let none = ap length is in omega (arith, l, none, more, many))
      go (k ∷ rest) is stands = none-there k rest (drop next strip) behind stands e

  pub all-passed : (at count done next : ℕ) → Passed at done next → count ≤ done → done ≤ count → (ks : List FieldsKey) (behind : List ℕ) → KeysAt form ks (drop at strip) behind → count ≤ length ks → KeysAt form (drop count ks) (drop next strip) behind
  all-passed at count done next p over within ks behind stands many =
      let same : count ≡ done = omega arith in
      subst (λ (n : ℕ). KeysAt form (drop n ks) (drop next strip) behind) (sym same) (p.stand ks behind stands (omega (arith, many)))

  -- Tracks.
  pub record TracksPassed (at done next : ℕ) : Type 0 where
    pub stand : (tracks : List (List FieldsKey)) (behind : List ℕ) → TracksAt form tracks (drop at strip) behind → done ≤ length tracks → TracksAt form (drop done tracks) (drop next strip) behind

  pub no-track_passed : (at : ℕ) → TracksPassed at 0 at
  no-track_passed at = record { stand = λ tracks behind stand few. stand }

  pub one-track_passed : (at done next after : ℕ) → TracksPassed at done next → ((ks : List FieldsKey) (tracks : List (List FieldsKey)) (behind : List ℕ) → TracksAt form (ks ∷ tracks) (drop next strip) behind → TracksAt form tracks (drop after strip) behind) → TracksPassed at (done + 1) after
  one-track_passed at done next after p step = record { stand = λ tracks behind stands few. go tracks behind (drop done tracks) refl (p.stand tracks behind stands (omega arith)) few }
    where
      go : (tracks : List (List FieldsKey)) (behind : List ℕ) (rest : List (List FieldsKey)) → drop done tracks ≡ rest → TracksAt form rest (drop next strip) behind → done + 1 ≤ length tracks → TracksAt form (drop (done + 1) tracks) (drop after strip) behind
      go tracks behind [] is stands few = absurd (let l = length-drop done tracks in let none = ap length is in omega (arith, l, none, few))
      go tracks behind (ks ∷ rest) is stands few = subst (λ (l : List (List FieldsKey)). TracksAt form l (drop after strip) behind) (sym (drop-more done tracks ks rest is)) (step ks rest behind stands)

  pub no-more_tracks : (at count done next : ℕ) → TracksPassed at done next → done < count → ((ks : List FieldsKey) (tracks : List (List FieldsKey)) (behind : List ℕ) → TracksAt form (ks ∷ tracks) (drop next strip) behind → ⊥) → (tracks : List (List FieldsKey)) (behind : List ℕ) → TracksAt form tracks (drop at strip) behind → count ≤ length tracks → ⊥
  no-more_tracks at count done next p more none tracks behind stands many = go (drop done tracks) refl (p.stand tracks behind stands (omega arith))
    where
      go : (rest : List (List FieldsKey)) → drop done tracks ≡ rest → TracksAt form rest (drop next strip) behind → ⊥
      go [] is stands = absurd (let l = length-drop done tracks in let none' = ap length is in omega (arith, l, none', more, many))
      go (ks ∷ rest) is stands = none ks rest behind stands

  pub all-tracks_passed : (at count done next : ℕ) → TracksPassed at done next → count ≤ done → done ≤ count → (tracks : List (List FieldsKey)) (behind : List ℕ) → TracksAt form tracks (drop at strip) behind → count ≤ length tracks → TracksAt form (drop count tracks) (drop next strip) behind
  all-tracks_passed at count done next p over within tracks behind stands many =
      let same : count ≡ done = omega arith in
      subst (λ (n : ℕ). TracksAt form (drop n tracks) (drop next strip) behind) (sym same) (p.stand tracks behind stands (omega (arith, many)))

  -- One track: its count, and as many keys.
  module _ (left : List ℕ) (ks : List FieldsKey) (tracks : List (List FieldsKey)) (behind : List ℕ) (stands : TracksAt form (ks ∷ tracks) left behind) where
    pub no-count : (why : Refusal) → declined why ≡ number count_width left → ⊥
    no-count why e = no_answer (e ∙ stands.2)

    module _ (count first : ℕ) (is : answered (count, drop first strip) ≡ number count_width left) where
      told : ◌≡◌ {A = ℕ × List ℕ} (count, drop first strip) (length ks, stands.0)
      told = answer-is (is ∙ stands.2)

      pub count-is : count ≡ length ks
      count-is = ap (λ (p : ℕ × List ℕ). p.0) told

      pub keys-stand : KeysAt form ks (drop first strip) stands.1
      keys-stand = subst (λ (l : List ℕ). KeysAt form ks l stands.1) (sym (ap (λ (p : ℕ × List ℕ). p.1) told)) stands.3

      pub track-passed : (after : ℕ) → ((ks : List FieldsKey) (behind : List ℕ) → KeysAt form ks (drop first strip) behind → count ≤ length ks → KeysAt form (drop count ks) (drop after strip) behind) → TracksAt form tracks (drop after strip) behind
      track-passed after step = go (drop count ks) refl (step ks stands.1 keys-stand (let same = count-is in omega (arith, same)))
        where
          go : (rest : List FieldsKey) → drop count ks ≡ rest → KeysAt form rest (drop after strip) stands.1 → TracksAt form tracks (drop after strip) behind
          go [] e there = subst (λ (l : List ℕ). TracksAt form tracks l behind) (sym there) stands.4
          go (k ∷ rest) e there = absurd (let l = length-drop count ks in let some = ap length e in let same = count-is in omega (arith, l, some, same))
