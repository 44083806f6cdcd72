-- A build asks only the tests about bodies: with each body put for another, everything else is as before. So code that knows a body by its
-- offset builds what the bodies themselves give. Assumes nothing.
use Prim.Native.Nat.{ℕ, zero, suc, ◌<◌}
use native.Mathlib.Omega.{arith}
use mathlib.Core.Bool.{Bool, cond, not, ◌&&◌}
use mathlib.Core.List.{List, [], ◌∷◌, map}
use mathlib.Core.Option.{Option, none, some}
use mathlib.Core.Path.{◌≡◌, refl, ap}
use lib.Dec.{eqb}
use lib.IntN.{pos}
use lib.ListN.{length}
use Rattle.layout.specs.Refusals.{missing_link, cycle, wrong_previous}
use Rattle.layout.specs.Numbers.{signed}
use Rattle.layout.specs.Walk.{Answer, answered}
use Rattle.clip.specs.First.{given, ◌or◌, first_met, any, member}
use Rattle.clip.specs.Fields.{Initial, Additional, Records, Kind, refusal_of}
use Rattle.clip.specs.Scan.{index_refusal, scan, record_of}
use Rattle.clip.specs.Chain.{unless, found, with, follow, chain}
use Rattle.clip.specs.Keys.{Key, KeyTest}
use Rattle.clip.specs.Build.{record_key, positions, chain_of, keys, reached_before, reached, both_links_zero, disconnected, links_followed, loose, records_refusal, track_refusal, build_refusal}
use Rattle.clip.proofs.Counting.{number-cong, total-cong}

pub first_cong : {A : Type 0} (n : ℕ) (f g : ℕ → Option A) → ((i : ℕ) → i < n → f i ≡ g i) → first_met n f ≡ first_met n g
unfolding first_met
first_cong zero f g h = refl
first_cong (suc n) f g h = rw (first_cong n f g (λ i lt. h i (omega arith)), h n (omega arith))

pub any-cong : (n : ℕ) (f g : ℕ → Bool) → ((i : ℕ) → i < n → f i ≡ g i) → any n f ≡ any n g
unfolding any
any-cong zero f g h = refl
any-cong (suc n) f g h = rw (any-cong n f g (λ i lt. h i (omega arith)), h n (omega arith))

module _ {A B : Type 0} (f : A → B) where
  abbrev pub initial_body : Initial A → Initial B
  initial_body i = record { frame = i.frame; next = i.next; body = f i.body }

  abbrev pub additional_body : Additional A → Additional B
  additional_body a = record { index = a.index; frame = a.frame; previous = a.previous; next = a.next; body = f a.body }

  abbrev pub key_body : Key A → Key B
  key_body k = record { frame = k.frame; body = f k.body }

  abbrev pub records_body : Records A → Records B
  records_body r = record { tracks = r.tracks; initial = λ t. initial_body (r.initial t); additional = r.additional; at = λ p. additional_body (r.at p) }

  module _ (kind : Kind) (r : Records A) where
    same-follow : (t n : ℕ) (visited : List ℕ) (expected link : ℕ) → follow kind (records_body r) t n visited expected link ≡ follow kind r t n visited expected link
    unfolding follow record_of
    same-follow t zero visited expected link = refl
    same-follow t (suc n) visited expected link = start (record_of r link) (λ p. same-follow t n (p ∷ visited) link (r.at p).next)
      where
        on : Answer (List ℕ) → ℕ → Answer (List ℕ)
        on rest p =
            unless (given (member p visited) (refusal_of kind cycle (pos t ∷ signed link ∷ []))
            or given (not (eqb (r.at p).previous expected)) (refusal_of kind wrong_previous (pos t ∷ signed link ∷ signed (r.at p).previous ∷ signed expected ∷ [])))
            (with p rest)

        start : (at : Option ℕ) → ((p : ℕ) → follow kind (records_body r) t n (p ∷ visited) link (r.at p).next ≡ follow kind r t n (p ∷ visited) link (r.at p).next)
            → cond (eqb link 0) (answered []) (found at (refusal_of kind missing_link (pos t ∷ signed link ∷ [])) (λ p. on (follow kind (records_body r) t n (p ∷ visited) link (r.at p).next) p))
            ≡ cond (eqb link 0) (answered []) (found at (refusal_of kind missing_link (pos t ∷ signed link ∷ [])) (λ p. on (follow kind r t n (p ∷ visited) link (r.at p).next) p))
        start none same = refl
        start (some p) same = rw (same p)

    pub same-chain : (t : ℕ) → chain kind (records_body r) t ≡ chain kind r t
    unfolding chain
    same-chain t = same-follow t (suc r.additional) [] t (r.initial t).next

    pub same-chain_of : (t : ℕ) → chain_of kind (records_body r) t ≡ chain_of kind r t
    unfolding chain_of
    same-chain_of t = ap positions (same-chain t)

    map_keys : (ps : List ℕ) → map (λ p. record_key (additional_body (r.at p))) ps ≡ map key_body (map (λ p. record_key (r.at p)) ps)
    map_keys [] = refl
    map_keys (p ∷ ps) = rw (map_keys ps)

    pub same_keys : (t : ℕ) → keys kind (records_body r) t ≡ map key_body (keys kind r t)
    unfolding keys
    same_keys t = rw (same-chain_of t, map_keys (chain_of kind r t))

    pub same-reached : (t p : ℕ) → reached_before kind (records_body r) t p ≡ reached_before kind r t p
    unfolding reached_before
    same-reached t p = any-cong t (λ u. member p (chain_of kind (records_body r) u)) (λ u. member p (chain_of kind r u)) (λ u lt. rw (same-chain_of u))

    pub same-disconnected : disconnected kind (records_body r) ≡ disconnected kind r
    unfolding disconnected
    same-disconnected = number-cong r.additional (λ p. not (reached kind (records_body r) p) && not (both_links_zero kind r p)) (λ p. not (reached kind r p) && not (both_links_zero kind r p)) (λ p lt. rw (same-reached r.tracks p))

    pub same-loose : loose kind (records_body r) ≡ loose kind r
    unfolding loose
    same-loose = number-cong r.additional (λ p. not (reached kind (records_body r) p) && both_links_zero kind r p) (λ p. not (reached kind r p) && both_links_zero kind r p) (λ p lt. rw (same-reached r.tracks p))

    pub same-links : links_followed kind (records_body r) ≡ links_followed kind r
    unfolding links_followed
    same-links = total-cong r.tracks (λ t. length (chain_of kind (records_body r) t)) (λ t. length (chain_of kind r t)) (λ t lt. rw (same-chain_of t))

    module _ (test : KeyTest B) where
      abbrev pub test_body : KeyTest A
      test_body t before key = test t before (key_body key)

      same-records : (t : ℕ) (before ps : List ℕ) → records_refusal kind test (records_body r) t before ps ≡ records_refusal kind test_body r t before ps
      unfolding records_refusal
      same-records t before [] = refl
      same-records t before (p ∷ ps) = rw (same-reached t p, same-records t ((r.at p).frame ∷ before) ps)

      same-track : (t : ℕ) → track_refusal kind test (records_body r) t ≡ track_refusal kind test_body r t
      unfolding track_refusal
      same-track t = rw (same-chain t, same-chain_of t, same-records t ((r.initial t).frame ∷ []) (chain_of kind r t))

      pub same-build : build_refusal kind test (records_body r) ≡ build_refusal kind test_body r
      unfolding build_refusal scan index_refusal
      same-build = rw (first_cong r.tracks (track_refusal kind test (records_body r)) (track_refusal kind test_body r) (λ t lt. same-track t), same-disconnected)
