-- 9 is never met: indices that pass the scan are distinct, so chains that pass share no record (Chained), whether the build is accepted or
-- not; and every other refusal has another number. Assumes nothing.
use Prim.Native.Nat.{ℕ, zero, suc, ◌<◌}
use native.Mathlib.Omega.{arith}
use mathlib.Core.Bool.{Bool, true, false, cond, not}
use mathlib.Core.List.{List, [], ◌∷◌}
use mathlib.Core.Option.{Option, none, some}
use mathlib.Core.Path.{◌≡◌, refl, ap, ◌∙◌}
use borrow.Author.Tests.{eq-eqb}
use lib.Dec.{eqb, ltb}
use lib.IntN.{ℤ, pos}
use Rattle.layout.specs.Refusals.{missing_link, cycle, wrong_previous}
use Rattle.layout.specs.Numbers.{signed, negative}
use Rattle.layout.specs.Walk.{Refusal, refusal, Answer, answered, declined}
use Rattle.section.specs.declared.model.Model.{Model}
use Rattle.clip.specs.First.{given, ◌or◌, first_met, any, member}
use Rattle.clip.specs.Fields.{BoneBody, Records, Kind, bone, morph, refusal_of}
use Rattle.clip.specs.Scan.{index_refusal, scan, Indexed}
use Rattle.clip.specs.Chain.{unless, found, with, follow, chain}
use Rattle.clip.specs.Keys.{Key, KeyTest, key_test, body_refusal, finite, translation_fails, orientation_fails, pose_asked, posed, weight_asked, float_at, bone_test, morph_test}
use Rattle.clip.specs.Build.{initial_key, record_key, positions, chain_refusal, chain_of, reached_before, disconnected, records_refusal, track_refusal, build_refusal}
use Rattle.clip.specs.Section.{bones, morphs, clip_refusal}
use Rattle.clip.specs.Scan.{record_of}
use Rattle.clip.proofs.First.{contrary, true-or, false-any}
use Rattle.clip.proofs.Indexed.{scanned}
use Rattle.clip.proofs.Chained.{one-track}
use Rattle.clip.proofs.Follow.{is-chain}

some_is : {A : Type 0} {n m : A} → some n ≡ some m → n ≡ m
some_is e = cc

-- What is met, if anything, has another number than 9.
pub record NotNine (o : Option Refusal) : Type 0 where
  pub other : (why : Refusal) → o ≡ some why → why.number ≡ 9 → ⊥

nothing-met : NotNine none
nothing-met = record { other = λ why e nine. let z : ◌≡◌ {A = ℕ} 0 1 = cc in omega arith }

met : (why : Refusal) → (why.number ≡ 9 → ⊥) → NotNine (some why)
met why h = record { other = λ w e nine. h (ap (λ (r : Refusal). r.number) (some_is e) ∙ nine) }

or-not-nine : (x y : Option Refusal) → NotNine x → (x ≡ none → NotNine y) → NotNine (x or y)
or-not-nine none y nx ny = ny refl
or-not-nine (some why) y nx ny = nx

given-not-nine : (b : Bool) (kind : Kind) (number : ℕ) (values : List ℤ) → (number ≡ 9 → ⊥) → NotNine (given b (refusal_of kind number values))
given-not-nine true kind number values h = met (refusal_of kind number values) h
given-not-nine false kind number values h = nothing-met

first-not-nine : (n : ℕ) (f : ℕ → Option Refusal) → ((i : ℕ) → i < n → NotNine (f i)) → NotNine (first_met n f)
unfolding first_met
first-not-nine zero f h = nothing-met
first-not-nine (suc n) f h = or-not-nine (first_met n f) (f n) (first-not-nine n f (λ i lt. h i (omega arith))) (λ e. h n (omega arith))

-- A chain's refusals.
abbrev NineFree : Answer (List ℕ) → Type 0
NineFree (answered ps) = Unit {0}
NineFree (declined why) = why.number ≡ 9 → ⊥

module _ {B : Type 0} (kind : Kind) (r : Records B) where
  -- A record of one chain is in no chain before.
  pub never-shared : Indexed r → (t : ℕ) → t < r.tracks → (p : ℕ) → member p (chain_of kind r t) ≡ true → reached_before kind r t p ≡ false
  unfolding reached_before chain_of member
  never-shared x t lt p is = false-any (λ u. member p (chain_of kind r u)) t (λ u less. go u less (chain kind r t) (chain kind r u) refl refl is (member p (chain_of kind r u)) refl)
    where
      go : (u : ℕ) → u < t → (a b : Answer (List ℕ)) → chain kind r t ≡ a → chain kind r u ≡ b → member p (positions a) ≡ true → (c : Bool) → member p (positions b) ≡ c → c ≡ false
      go u less a b ea eb inside false e = refl
      go u less (declined why) b ea eb inside true e = contrary false inside refl
      go u less (answered ps) (declined why) ea eb inside true e = contrary false e refl
      go u less (answered ps) (answered qs) ea eb inside true e =
          let lu : u < r.tracks = omega arith in
          absurd (let same = one-track r x t u lt lu ps qs (r.initial t).next (r.initial u).next (is-chain kind r t ps ea) (is-chain kind r u qs eb) p inside e in omega (arith, same, less))

  index-not-nine : (p : ℕ) → NotNine (index_refusal kind r p)
  unfolding index_refusal
  index-not-nine p =
      or-not-nine _ _ (given-not-nine (negative (r.at p).index) kind 3 _ (λ (e : 3 ≡ 9). omega arith)) (λ e3.
      or-not-nine _ _ (given-not-nine (ltb (r.at p).index r.tracks) kind 4 _ (λ (e : 4 ≡ 9). omega arith)) (λ e4.
      given-not-nine (any p (λ q. eqb (r.at q).index (r.at p).index)) kind 5 _ (λ (e : 5 ≡ 9). omega arith)))

  follow-not-nine : (t n : ℕ) (visited : List ℕ) (expected link : ℕ) → NineFree (follow kind r t n visited expected link)
  unfolding follow
  follow-not-nine t zero visited expected link = λ e. omega arith
  follow-not-nine t (suc n) visited expected link = start (eqb link 0) (record_of r link) (λ p. follow-not-nine t n (p ∷ visited) link (r.at p).next)
    where
      on : (p : ℕ) (seen same : Bool) (rest : Answer (List ℕ)) → NineFree rest → NineFree (unless (given seen (refusal_of kind cycle (pos t ∷ signed link ∷ [])) or given (not same) (refusal_of kind wrong_previous (pos t ∷ signed link ∷ signed (r.at p).previous ∷ signed expected ∷ []))) (with p rest))
      on p true same rest free = λ e. omega arith
      on p false false rest free = λ e. omega arith
      on p false true (answered ps) free = tt
      on p false true (declined why) free = free

      start : (ends : Bool) (at : Option ℕ) → ((p : ℕ) → NineFree (follow kind r t n (p ∷ visited) link (r.at p).next)) → NineFree (cond ends (answered []) (found at (refusal_of kind missing_link (pos t ∷ signed link ∷ [])) (λ p. let rest = follow kind r t n (p ∷ visited) link (r.at p).next in unless (given (member p visited) (refusal_of kind cycle (pos t ∷ signed link ∷ [])) or given (not (eqb (r.at p).previous expected)) (refusal_of kind wrong_previous (pos t ∷ signed link ∷ signed (r.at p).previous ∷ signed expected ∷ []))) (with p rest))))
      start true at before = tt
      start false none before = λ e. omega arith
      start false (some p) before = on p (member p visited) (eqb (r.at p).previous expected) (follow kind r t n (p ∷ visited) link (r.at p).next) (before p)

  chain-not-nine : (t : ℕ) → NotNine (chain_refusal (chain kind r t))
  unfolding chain
  chain-not-nine t = go (follow kind r t (suc r.additional) [] t (r.initial t).next) (follow-not-nine t (suc r.additional) [] t (r.initial t).next)
    where
      go : (a : Answer (List ℕ)) → NineFree a → NotNine (chain_refusal a)
      go (answered ps) free = nothing-met
      go (declined why) free = met why free

module _ {B : Type 0} (kind : Kind) (test : KeyTest B) (tested : (t : ℕ) (before : List ℕ) (key : Key B) → NotNine (test t before key)) (r : Records B) where
  records-not-nine : (t : ℕ) (before ps : List ℕ) → ((p : ℕ) → member p ps ≡ true → reached_before kind r t p ≡ false) → NotNine (records_refusal kind test r t before ps)
  unfolding records_refusal member
  records-not-nine t before [] new = nothing-met
  records-not-nine t before (p ∷ ps) new =
      rw (new p (rw (eq-eqb p p refl)))
      (or-not-nine (test t before (record_key (r.at p))) (records_refusal kind test r t ((r.at p).frame ∷ before) ps) (tested t before (record_key (r.at p)))
      (λ e. records-not-nine t ((r.at p).frame ∷ before) ps (λ q is. new q (true-or (eqb q p) (member q ps) is))))

  track-not-nine : Indexed r → (t : ℕ) → t < r.tracks → NotNine (track_refusal kind test r t)
  unfolding track_refusal
  track-not-nine x t lt =
      or-not-nine (chain_refusal (chain kind r t)) _ (chain-not-nine kind r t) (λ e.
      or-not-nine (test t [] (initial_key (r.initial t))) _ (tested t [] (initial_key (r.initial t))) (λ e.
      records-not-nine t ((r.initial t).frame ∷ []) (chain_of kind r t) (never-shared kind r x t lt)))

  pub never-nine : NotNine (build_refusal kind test r)
  unfolding build_refusal scan
  never-nine =
      or-not-nine (first_met r.additional (index_refusal kind r)) _ (first-not-nine r.additional (index_refusal kind r) (λ p lt. index-not-nine kind r p)) (λ scans.
      or-not-nine (first_met r.tracks (track_refusal kind test r)) _ (first-not-nine r.tracks (track_refusal kind test r) (track-not-nine (scanned kind r scans))) (λ e.
      given-not-nine (ltb 0 (disconnected kind r)) kind 15 _ (λ (e : 15 ≡ 9). omega arith)))

-- What is asked of a key is never 9 either.
module _ {B : Type 0} (kind : Kind) (asked : B → Option ℕ) (other : (b : B) (n : ℕ) → asked b ≡ some n → n ≡ 9 → ⊥) where
  key-not-nine : (t : ℕ) (before : List ℕ) (key : Key B) → NotNine (key_test kind asked t before key)
  unfolding key_test
  key-not-nine t before key =
      or-not-nine _ _ (given-not-nine (negative key.frame) kind 10 _ (λ (e : 10 ≡ 9). omega arith)) (λ e10.
      or-not-nine _ _ (given-not-nine (member key.frame before) kind 11 _ (λ (e : 11 ≡ 9). omega arith)) (λ e11. go (asked key.body) refl))
    where
      go : (o : Option ℕ) → asked key.body ≡ o → NotNine (body_refusal o t key.frame)
      go none e = nothing-met
      go (some n) e = met (refusal n (pos t ∷ signed key.frame ∷ [])) (other key.body n e)

pose-other : (b : BoneBody) (n : ℕ) → pose_asked (posed b) ≡ some n → n ≡ 9 → ⊥
unfolding pose_asked
pose-other b n e nine = go (translation_fails (posed b)) (orientation_fails (posed b)) e nine
  where
    go : (x y : Bool) → (given x 12 or given y 13) ≡ some n → n ≡ 9 → ⊥
    go true y e nine = let is : 12 ≡ n = some_is e in omega (arith, is, nine)
    go false true e nine = let is : 13 ≡ n = some_is e in omega (arith, is, nine)
    go false false e nine = let z : ◌≡◌ {A = ℕ} 0 1 = cc in omega arith

weight-other : (w : List ℕ) (n : ℕ) → weight_asked (float_at w 0) ≡ some n → n ≡ 9 → ⊥
unfolding weight_asked
weight-other w n e nine = go (not (finite (float_at w 0))) e nine
  where
    go : (x : Bool) → given x 14 ≡ some n → n ≡ 9 → ⊥
    go true e nine = let is : 14 ≡ n = some_is e in omega (arith, is, nine)
    go false e nine = let z : ◌≡◌ {A = ℕ} 0 1 = cc in omega arith

-- No section's build meets 9.
pub clip-never-nine : (s : List ℕ) (m : Model) → NotNine (clip_refusal s m)
unfolding clip_refusal
clip-never-nine s m =
    or-not-nine (build_refusal bone bone_test (bones s m)) _ (never-nine bone bone_test (key-not-nine bone (λ b. pose_asked (posed b)) pose-other) (bones s m))
    (λ e. never-nine morph morph_test (key-not-nine morph (λ w. weight_asked (float_at w 0)) weight-other) (morphs s m))
