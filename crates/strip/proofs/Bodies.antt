-- The work slices and the bytes of tracks, with each body put for another: the order of indices and the marks do not look at bodies (clip,
-- Bodies), and only the fields of keys turn on them. Assumes nothing.
use Prim.Native.Nat.{ℕ, zero, suc, ◌<◌}
use native.Mathlib.Omega.{arith}
use mathlib.Core.List.{List, [], ◌∷◌, map}
use mathlib.Core.Path.{◌≡◌, refl, ap}
use lib.ListN.{length-map}
use Rattle.clip.specs.First.{given, member}
use Rattle.clip.specs.Fields.{Records, Kind}
use Rattle.clip.specs.Keys.{Key}
use Rattle.clip.specs.Build.{chain_of, keys}
use Rattle.clip.proofs.Bodies.{key_body, records_body, same-chain_of, same_keys, first_cong}
use Rattle.strip.specs.Plain.{Group}
use Rattle.strip.specs.Keys.{key_bytes}
use Rattle.strip.specs.Strip.{keys_bytes, track_bytes}
use Rattle.strip.proofs.ByTrack.{tracks_from}
use Rattle.strip.specs.Work.{each, inserted, by_index, plus_one, track_mark}

pub each-cong : (n : ℕ) (f g : ℕ → ℕ) → ((i : ℕ) → i < n → f i ≡ g i) → each n f ≡ each n g
unfolding each
each-cong zero f g h = refl
each-cong (suc n) f g h = rw (each-cong n f g (λ i lt. h i (omega arith)), h n (omega arith))

module _ {A B : Type 0} (f : A → B) (r : Records A) where
  same-inserted : (p : ℕ) (qs : List ℕ) → inserted (records_body f r) p qs ≡ inserted r p qs
  unfolding inserted
  same-inserted p [] = refl
  same-inserted p (q ∷ qs) = rw (same-inserted p qs)

  pub same-by_index : (n : ℕ) → by_index (records_body f r) n ≡ by_index r n
  unfolding by_index
  same-by_index zero = refl
  same-by_index (suc n) = rw (same-by_index n) (same-inserted n (by_index r n))

  module _ (kind : Kind) where
    same-mark : (p : ℕ) → track_mark kind (records_body f r) p ≡ track_mark kind r p
    unfolding track_mark
    same-mark p = ap plus_one (first_cong r.tracks (λ t. given (member p (chain_of kind (records_body f r) t)) t) (λ t. given (member p (chain_of kind r t)) t) (λ t lt. rw (same-chain_of f kind r t)))

    pub same-marks : (n : ℕ) → each n (track_mark kind (records_body f r)) ≡ each n (track_mark kind r)
    same-marks n = each-cong n (track_mark kind (records_body f r)) (track_mark kind r) (λ p lt. same-mark p)

    module _ (width : ℕ) (groups : List Group) (fields_of : B → List (List ℕ)) where
      keys-bytes : (ks : List (Key A)) → keys_bytes groups fields_of (map (key_body f) ks) ≡ keys_bytes groups (λ a. fields_of (f a)) ks
      unfolding keys_bytes key_bytes
      keys-bytes [] = refl
      keys-bytes (k ∷ ks) = rw (keys-bytes ks)

      track-bytes : (ks : List (Key A)) → track_bytes width groups fields_of (map (key_body f) ks) ≡ track_bytes width groups (λ a. fields_of (f a)) ks
      unfolding track_bytes
      track-bytes ks = rw (length-map ks (key_body f), keys-bytes ks)

      pub same_bytes : (t n : ℕ) → tracks_from width groups fields_of (keys kind (records_body f r)) t n ≡ tracks_from width groups (λ a. fields_of (f a)) (keys kind r) t n
      unfolding tracks_from
      same_bytes t zero = refl
      same_bytes t (suc n) = rw (same_keys f kind r t, track-bytes (keys kind r t), same_bytes (suc t) n)
