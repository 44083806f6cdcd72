-- A build is accepted exactly where the records are sound, said without any walk: indices in range and distinct, a chain for each track,
-- keys that pass, and both links 0 in every record that no chain holds. Such chains share no record, so 9 is never met. Assumes nothing.
use Prim.Native.Nat.{ℕ, ◌<◌}
use native.Mathlib.Omega.{arith}
use mathlib.Core.Bool.{Bool, true, false, not, ◌&&◌}
use mathlib.Core.List.{List, [], ◌∷◌, map}
use mathlib.Core.Option.{Option, none}
use mathlib.Core.Path.{◌≡◌, refl}
use borrow.Author.Tests.{ltb-false, le-ltb, eqb-true, eq-eqb}
use lib.Dec.{eqb, ltb}
use lib.IntN.{pos}
use Rattle.layout.specs.Refusals.{shared_record, disconnected_records}
use Rattle.layout.specs.Numbers.{signed}
use Rattle.layout.specs.Walk.{Refusal, Answer, answered, declined}
use Rattle.clip.specs.First.{given, ◌or◌, first_met, member}
use Rattle.clip.specs.Fields.{Records, Kind, refusal_of}
use Rattle.clip.specs.Scan.{scan, Indexed}
use Rattle.clip.specs.Chain.{chain}
use Rattle.clip.specs.Keys.{Key, KeyTest}
use Rattle.clip.specs.Build.{initial_key, record_key, positions, chain_refusal, chain_of, reached_before, reached, both_links_zero, disconnected, records_refusal, track_refusal, build_refusal}
use Rattle.clip.proofs.First.{contrary, true-or, or-none, none_or, given-none, none-given, first-none, none_first, any_false, false-any}
use Rattle.clip.proofs.Counting.{none_pass, number-zero}
use Rattle.clip.proofs.Indexed.{scanned, scans}
use Rattle.clip.proofs.Chained.{Chained, one-track}
use Rattle.clip.proofs.Follow.{chain-is, is-chain}

-- Each key passes, given the frames before it.
abbrev pub KeysPass : {B : Type 0} → (List ℕ → Key B → Option Refusal) → List ℕ → List (Key B) → Type 0
KeysPass test before [] = Unit {0}
KeysPass test before (key ∷ ks) = (test before key ≡ none) × KeysPass test (key.frame ∷ before) ks

module _ {B : Type 0} (r : Records B) where
  abbrev pub keys_of : ℕ → List ℕ → List (Key B)
  keys_of t ps = initial_key (r.initial t) ∷ map (λ p. record_key (r.at p)) ps

module _ {B : Type 0} (test : KeyTest B) (r : Records B) where
  pub record Sound : Type 0 where
    pub indexed : Indexed r
    pub of : ℕ → List ℕ
    pub chained : (t : ℕ) → t < r.tracks → Chained r t (r.initial t).next (of t)
    pub pass : (t : ℕ) → t < r.tracks → KeysPass (test t) [] (keys_of r t (of t))
    pub idle : (p : ℕ) → p < r.additional → ((t : ℕ) → t < r.tracks → member p (of t) ≡ false) → ((r.at p).previous ≡ 0) × ((r.at p).next ≡ 0)

module _ {B : Type 0} (kind : Kind) (test : KeyTest B) (r : Records B) where
  answers : (a : Answer (List ℕ)) → chain_refusal a ≡ none → a ≡ answered (positions a)
  answers (answered ps) e = refl
  answers (declined why) e = absurd (let z : ◌≡◌ {A = ℕ} 0 1 = cc in omega arith)

  records-pass : (t : ℕ) (before ps : List ℕ) → records_refusal kind test r t before ps ≡ none → KeysPass (test t) before (map (λ p. record_key (r.at p)) ps)
  unfolding records_refusal
  records-pass t before [] e = tt
  records-pass t before (p ∷ ps) e =
      let rest = (or-none (given (reached_before kind r t p) (refusal_of kind shared_record (signed (r.at p).index ∷ []))) (test t before (record_key (r.at p)) or records_refusal kind test r t ((r.at p).frame ∷ before) ps) e).1 in
      let parts = or-none (test t before (record_key (r.at p))) (records_refusal kind test r t ((r.at p).frame ∷ before) ps) rest in
      (parts.0, records-pass t ((r.at p).frame ∷ before) ps parts.1)

  pass-records : (t : ℕ) (before ps : List ℕ) → ((p : ℕ) → member p ps ≡ true → reached_before kind r t p ≡ false) → KeysPass (test t) before (map (λ p. record_key (r.at p)) ps) → records_refusal kind test r t before ps ≡ none
  unfolding records_refusal member
  pass-records t before [] new pass = refl
  pass-records t before (p ∷ ps) new pass =
      none_or _ _ (none-given _ _ (new p (rw (eq-eqb p p refl))))
      (none_or _ _ pass.0 (pass-records t ((r.at p).frame ∷ before) ps (λ q is. new q (true-or (eqb q p) (member q ps) is)) pass.1))

  both_zero : (p : ℕ) → both_links_zero kind r p ≡ true → ((r.at p).previous ≡ 0) × ((r.at p).next ≡ 0)
  both_zero p e = go (eqb (r.at p).previous 0) (eqb (r.at p).next 0) refl refl e
    where
      go : (a b : Bool) → eqb (r.at p).previous 0 ≡ a → eqb (r.at p).next 0 ≡ b → (a && b) ≡ true → ((r.at p).previous ≡ 0) × ((r.at p).next ≡ 0)
      go true true ea eb e = (eqb-true _ _ ea, eqb-true _ _ eb)
      go true false ea eb e = contrary false e refl
      go false b ea eb e = contrary false e refl

  record Track (t : ℕ) : Type 0 where
    pub chain : chain_refusal (chain kind r t) ≡ none
    pub first : test t [] (initial_key (r.initial t)) ≡ none
    pub rest : records_refusal kind test r t ((r.initial t).frame ∷ []) (chain_of kind r t) ≡ none

  track : (t : ℕ) → track_refusal kind test r t ≡ none → Track t
  unfolding track_refusal
  track t e =
      let outer = or-none (chain_refusal (chain kind r t)) (test t [] (initial_key (r.initial t)) or records_refusal kind test r t ((r.initial t).frame ∷ []) (chain_of kind r t)) e in
      let inner = or-none (test t [] (initial_key (r.initial t))) (records_refusal kind test r t ((r.initial t).frame ∷ []) (chain_of kind r t)) outer.1 in
      record { chain = outer.0; first = inner.0; rest = inner.1 }

  chained-track : (t : ℕ) → track_refusal kind test r t ≡ none → Chained r t (r.initial t).next (chain_of kind r t)
  unfolding chain_of
  chained-track t e = is-chain kind r t (chain_of kind r t) (answers (chain kind r t) (track t e).chain)

  passed-track : (t : ℕ) → track_refusal kind test r t ≡ none → KeysPass (test t) [] (keys_of r t (chain_of kind r t))
  passed-track t e = ((track t e).first, records-pass t ((r.initial t).frame ∷ []) (chain_of kind r t) (track t e).rest)

  -- That 15 is not met, both ways.
  left-idle : disconnected kind r ≡ 0 → (p : ℕ) → p < r.additional → ((t : ℕ) → t < r.tracks → member p (chain_of kind r t) ≡ false) → ((r.at p).previous ≡ 0) × ((r.at p).next ≡ 0)
  unfolding disconnected reached_before
  left-idle none_left p lt out =
      let free = none_pass r.additional (λ p. not (reached kind r p) && not (both_links_zero kind r p)) none_left p lt in
      let apart : reached kind r p ≡ false = false-any (λ t. member p (chain_of kind r t)) r.tracks out in
      both_zero p (go (reached kind r p) (both_links_zero kind r p) apart free)
    where
      go : (a b : Bool) → a ≡ false → (not a && not b) ≡ false → b ≡ true
      go true b ea e = contrary true refl ea
      go false true ea e = refl
      go false false ea e = contrary true refl e

  pub idle-left : ((p : ℕ) → p < r.additional → ((t : ℕ) → t < r.tracks → member p (chain_of kind r t) ≡ false) → ((r.at p).previous ≡ 0) × ((r.at p).next ≡ 0)) → disconnected kind r ≡ 0
  unfolding disconnected reached_before
  idle-left idle =
      number-zero r.additional (λ p. not (reached kind r p) && not (both_links_zero kind r p)) (λ p lt. go p lt (reached kind r p) refl)
    where
      go : (p : ℕ) → p < r.additional → (a : Bool) → reached kind r p ≡ a → (not a && not (both_links_zero kind r p)) ≡ false
      go p lt true e = refl
      go p lt false e =
          let links = idle p lt (any_false (λ t. member p (chain_of kind r t)) r.tracks e) in
          rw (eq-eqb (r.at p).previous 0 links.0, eq-eqb (r.at p).next 0 links.1)

  pub sound : build_refusal kind test r ≡ none → Sound test r
  unfolding build_refusal
  sound e =
      let n = disconnected kind r in
      let r15 = refusal_of kind disconnected_records (pos n ∷ []) in
      let front = or-none (scan kind r) (first_met r.tracks (track_refusal kind test r) or given (ltb 0 n) r15) e in
      let back = or-none (first_met r.tracks (track_refusal kind test r)) (given (ltb 0 n) r15) front.1 in
      let few = ltb-false 0 n (given-none (ltb 0 n) r15 back.1) in
      record {
        indexed = scanned kind r front.0;
        of = chain_of kind r;
        chained = λ t lt. chained-track t (first-none r.tracks (track_refusal kind test r) back.0 t lt);
        pass = λ t lt. passed-track t (first-none r.tracks (track_refusal kind test r) back.0 t lt);
        idle = left-idle (omega (arith, few));
      }

  module _ (s : Sound test r) where
    chain-found : (t : ℕ) → t < r.tracks → chain kind r t ≡ answered (s.of t)
    chain-found t lt = chain-is kind r t s.indexed lt (s.of t) (s.chained t lt)

    pub chain-of : (t : ℕ) → t < r.tracks → chain_of kind r t ≡ s.of t
    unfolding chain_of
    chain-of t lt = rw (chain-found t lt)

    -- No record of a chain is in the chain of a track before.
    pub not-before : (t : ℕ) → t < r.tracks → (p : ℕ) → member p (s.of t) ≡ true → reached_before kind r t p ≡ false
    unfolding reached_before
    not-before t lt p is = false-any (λ u. member p (chain_of kind r u)) t (λ u less. go u less (member p (chain_of kind r u)) refl)
      where
        go : (u : ℕ) → u < t → (b : Bool) → member p (chain_of kind r u) ≡ b → b ≡ false
        go u less false e = refl
        go u less true e =
            let lu : u < r.tracks = omega arith in
            let both : member p (s.of u) ≡ true = rw (chain-of u lu) at e in
            absurd (let same = one-track r s.indexed t u lt lu (s.of t) (s.of u) (r.initial t).next (r.initial u).next (s.chained t lt) (s.chained u lu) p is both in omega (arith, same, less))

    track-builds : (t : ℕ) → t < r.tracks → track_refusal kind test r t ≡ none
    unfolding track_refusal
    track-builds t lt =
        let found : chain_refusal (chain kind r t) ≡ none = rw (chain-found t lt) in
        let rest : records_refusal kind test r t ((r.initial t).frame ∷ []) (chain_of kind r t) ≡ none =
        rw (chain-of t lt) (pass-records t ((r.initial t).frame ∷ []) (s.of t) (not-before t lt) (s.pass t lt).1) in
        none_or _ _ found (none_or _ _ (s.pass t lt).0 rest)

    pub builds : build_refusal kind test r ≡ none
    unfolding build_refusal
    builds =
        let few = idle-left (λ p lt out. s.idle p lt (λ t is. rw (chain-of t is) at (out t is))) in
        none_or _ _ (scans kind r s.indexed)
        (none_or _ _ (none_first r.tracks (track_refusal kind test r) track-builds) (none-given _ _ (le-ltb 0 (disconnected kind r) (omega (arith, few)))))
