-- Tracks of equal bytes have as many keys, those in the same place alike, and the other way round: the count in front tells how many keys
-- follow, and a key's bytes tell where they end (Keys). Assumes nothing.
use Prim.Native.Nat.{ℕ, zero, suc, ◌+◌, ◌^◌, ◌≤◌, ◌<◌}
use native.Mathlib.Decide.{ℕ_discrete}
use native.Mathlib.Omega.{arith}
use mathlib.Core.List.{List, ◌++◌, append_assoc}
use mathlib.Core.Path.{◌≡◌, refl, sym, ◌∙◌, subst}
use lib.ListN.{length}
use Rattle.clip.specs.Keys.{Key}
use Rattle.strip.specs.Plain.{Group}
use Rattle.strip.specs.Numbers.{little_endian}
use Rattle.strip.specs.Keys.{AlikeKeys}
use Rattle.strip.specs.Strip.{keys_bytes, track_bytes}
use Rattle.strip.proofs.ByTrack.{tracks_from}
use Rattle.strip.proofs.Bytes.{counts-are}
use Rattle.strip.proofs.Keys.{AllWritable, keys-are, same_keys, as_many}

module _ {B : Type 0} (width : ℕ) (groups : List Group) (fields_of : B → List (List ℕ)) where
  -- A track that can be written: its keys, and their number.
  pub record WritableTrack (ks : List (Key B)) : Type 0 where
    pub count : length ks < 256 ^ width
    pub keys : AllWritable groups fields_of ks

  track-is : (ks hs : List (Key B)) (xs ys : List ℕ) → WritableTrack ks → WritableTrack hs → track_bytes width groups fields_of ks ++ xs ≡ track_bytes width groups fields_of hs ++ ys → AlikeKeys groups fields_of ks hs × (xs ≡ ys)
  unfolding track_bytes
  track-is ks hs xs ys wk wh e =
      let flat = sym (append_assoc (little_endian width (length ks)) (keys_bytes groups fields_of ks) xs) ∙ e ∙ append_assoc (little_endian width (length hs)) (keys_bytes groups fields_of hs) ys in
      let counts = counts-are width (length ks) (length hs) (keys_bytes groups fields_of ks ++ xs) (keys_bytes groups fields_of hs ++ ys) wk.count wh.count flat in
      keys-are groups fields_of ks hs xs ys counts.0 wk.keys wh.keys counts.1

  same-track : (ks hs : List (Key B)) → WritableTrack ks → WritableTrack hs → AlikeKeys groups fields_of ks hs → track_bytes width groups fields_of ks ≡ track_bytes width groups fields_of hs
  unfolding track_bytes
  same-track ks hs wk wh like = rw (as_many groups fields_of ks hs like, same_keys groups fields_of ks hs wk.keys wh.keys like)

  module _ (f h : ℕ → List (Key B)) where
    pub tracks-are : (n t : ℕ) (xs ys : List ℕ) → ((i : ℕ) → t ≤ i → i < t + n → WritableTrack (f i)) → ((i : ℕ) → t ≤ i → i < t + n → WritableTrack (h i)) → tracks_from width groups fields_of f t n ++ xs ≡ tracks_from width groups fields_of h t n ++ ys → ((i : ℕ) → t ≤ i → i < t + n → AlikeKeys groups fields_of (f i) (h i)) × (xs ≡ ys)
    unfolding tracks_from
    tracks-are zero t xs ys wf wh e = (λ i low high. absurd (omega arith), e)
    tracks-are (suc n) t xs ys wf wh e =
        let flat = sym (append_assoc (track_bytes width groups fields_of (f t)) (tracks_from width groups fields_of f (suc t) n) xs) ∙ e ∙ append_assoc (track_bytes width groups fields_of (h t)) (tracks_from width groups fields_of h (suc t) n) ys in
        let one = track-is (f t) (h t) (tracks_from width groups fields_of f (suc t) n ++ xs) (tracks_from width groups fields_of h (suc t) n ++ ys) (wf t (omega arith) (omega arith)) (wh t (omega arith) (omega arith)) flat in
        let rest = tracks-are n (suc t) xs ys (λ i low high. wf i (omega arith) (omega arith)) (λ i low high. wh i (omega arith) (omega arith)) one.1 in
        (λ i low high. go i low high (ℕ_discrete i t) one.0 rest.0, rest.1)
      where
        go : (i : ℕ) → t ≤ i → i < t + suc n → Dec (i ≡ t) → AlikeKeys groups fields_of (f t) (h t) → ((i : ℕ) → suc t ≤ i → i < suc t + n → AlikeKeys groups fields_of (f i) (h i)) → AlikeKeys groups fields_of (f i) (h i)
        go i low high (yes e) first later = subst (λ k. AlikeKeys groups fields_of (f k) (h k)) (sym e) first
        go i low high (no ne) first later = later i (omega (arith, ne)) (omega arith)

    pub same-tracks : (n t : ℕ) → ((i : ℕ) → t ≤ i → i < t + n → WritableTrack (f i)) → ((i : ℕ) → t ≤ i → i < t + n → WritableTrack (h i)) → ((i : ℕ) → t ≤ i → i < t + n → AlikeKeys groups fields_of (f i) (h i)) → tracks_from width groups fields_of f t n ≡ tracks_from width groups fields_of h t n
    unfolding tracks_from
    same-tracks zero t wf wh like = refl
    same-tracks (suc n) t wf wh like =
        rw (
          same-track (f t) (h t) (wf t (omega arith) (omega arith)) (wh t (omega arith) (omega arith)) (like t (omega arith) (omega arith)),
          same-tracks n (suc t) (λ i low high. wf i (omega arith) (omega arith)) (λ i low high. wh i (omega arith) (omega arith)) (λ i low high. like i (omega arith) (omega arith)),
        )

    -- Equal keys have equal bytes.
    pub equal-tracks : (n t : ℕ) → ((i : ℕ) → t ≤ i → i < t + n → f i ≡ h i) → tracks_from width groups fields_of f t n ≡ tracks_from width groups fields_of h t n
    unfolding tracks_from
    equal-tracks zero t same = refl
    equal-tracks (suc n) t same = rw (same t (omega arith) (omega arith), equal-tracks n (suc t) (λ i low high. same i (omega arith) (omega arith)))
