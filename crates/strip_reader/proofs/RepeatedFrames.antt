-- Repeated frames looked for beside a pass: where none is, the keys are what the pass found, and where one is, 25 is met at the later key,
-- which ended before anything else was met. Frames that rise are not repeated. Assumes nothing.
use Rattle.std.proofs.Common.{◌≡◌, ℕ, zero, suc, ◌+◌, ◌≤◌, ◌<◌, Bool, true, false, ◌||◌, ◌&&◌, List, [], ◌∷◌, length, drop, eqb, leb, refl, sym, ap, ◌∙◌, arith, Ok, Err}
use borrow.Author.Tests.{leb-true, ne_eqb}
use Rattle.layout.specs.Refusals.{never_written}
use Rattle.layout.specs.Walk.{Refusal, refusal, Answer, answered, declined}
use Rattle.clip.specs.First.{member}
use Rattle.clip.proofs.Follow.{no_answer}
use Rattle.strip.specs.Strip.{FieldsKey}
use Rattle.strip_reader.specs.Answers.{reader_refusal}
use Rattle.strip_reader.specs.Front.{and_then, refuse_if}
use Rattle.strip_reader.specs.Key.{Form, key}
use Rattle.strip_reader.specs.Read.{keys}
use Rattle.strip_reader.specs.Skip.{frames}
use Rattle.strip_reader.specs.Pass.{keys_frames, passed_keys, rising, frame_and, end_read, PassesKeys}
use Rattle.strip_reader.specs.Repeated.{repeats}
use Rattle.strip_reader.specs.Judge.{how_many, KeysAre}
use Rattle.strip_reader.specs.declared.{refusal.ReaderRefusal.{ReaderRefusal}, pass.KeysPass.{KeysPass}, judge.KeysFound.{KeysFound}}
use Rattle.strip_reader.proofs.BoneKeys.{eqb_comm}
use Rattle.strip_reader.proofs.Skips.{frames-of-key}

-- A frame that is repeated behind frames before it.
abbrev met : List ℕ → List ℕ → Bool
met before [] = false
met before (frame ∷ frames) = member frame before || met (frame ∷ before) frames

abbrev among : List ℕ → List ℕ → Bool
among before [] = false
among before (frame ∷ frames) = member frame before || among before frames

shuffled : (a b c d : Bool) → a || b || (c || d) ≡ a || c || (b || d)
shuffled true b c d = refl
shuffled false true true d = refl
shuffled false true false d = refl
shuffled false false c d = refl

shuffled_three : (a b c d : Bool) → a || (b || c || d) ≡ a || c || (b || d)
shuffled_three true b c d = refl
shuffled_three false true true d = refl
shuffled_three false true false d = refl
shuffled_three false false c d = refl

among-more : (frame : ℕ) (before frames : List ℕ) → among (frame ∷ before) frames ≡ member frame frames || among before frames
unfolding member
among-more frame before [] = refl
among-more frame before (g ∷ gs) =
    rw (among-more frame before gs, eqb_comm g frame) (shuffled (eqb frame g) (member g before) (member frame gs) (among before gs))

met-is : (before frames : List ℕ) → met before frames ≡ among before frames || repeats frames
unfolding repeats
met-is before [] = refl
met-is before (frame ∷ frames) =
    rw (met-is (frame ∷ before) frames, among-more frame before frames)
    (shuffled_three (member frame before) (member frame frames) (among before frames) (repeats frames))

nothing-among : (frames : List ℕ) → among [] frames ≡ false
unfolding member
nothing-among [] = refl
nothing-among (frame ∷ frames) = nothing-among frames

-- Frames below a least one.
abbrev Below : ℕ → List ℕ → Type 0
Below least [] = Unit {0}
Below least (frame ∷ frames) = (frame < least) × Below least frames

lower : (a b : ℕ) → a ≤ b → (frames : List ℕ) → Below a frames → Below b frames
lower a b le [] below = tt
lower a b le (frame ∷ frames) below = (let l = below.0 in omega (arith, l), lower a b le frames below.1)

not-below : (least frame : ℕ) → least ≤ frame → (frames : List ℕ) → Below least frames → member frame frames ≡ false
unfolding member
not-below least frame le [] below = refl
not-below least frame le (other ∷ frames) below =
    rw (ne_eqb frame other (λ e. let l = below.0 in omega (arith, l, e)), not-below least frame le frames below.1) refl

rising-new : (least : ℕ) (before fs : List ℕ) → Below least before → rising least fs ≡ true → met before fs ≡ false
rising-new least before [] below rises = refl
rising-new least before (frame ∷ fs) below rises = go (leb least frame) refl rises (λ above. rising-new (frame + 1) (frame ∷ before) fs above)
  where
    go : (b : Bool) → leb least frame ≡ b → b && rising (frame + 1) fs ≡ true → (Below (frame + 1) (frame ∷ before) → rising (frame + 1) fs ≡ true → met (frame ∷ before) fs ≡ false) → met before (frame ∷ fs) ≡ false
    go true is others again =
        let le = leb-true least frame is in
        rw (not-below least frame le before below) (again (omega arith, lower least (frame + 1) (omega (arith, le)) before below) others)
    go false is others again = absurd (let z : ◌≡◌ {A = Bool} false true = others in cc)

met-repeats : (fs : List ℕ) → met [] fs ≡ repeats fs
met-repeats fs = met-is [] fs ∙ rw (nothing-among fs) refl

pub only-declined : {A : Type 0} (a : Answer (List A × List ℕ)) (why : Refusal) → how_many a ≡ declined why → a ≡ declined why
only-declined (answered (xs, l)) why e = no_answer (sym e)
only-declined {A} (declined why') why e = ap other e
  where
    other : Answer (ℕ × List ℕ) → Answer (List A × List ℕ)
    other (declined w) = declined w
    other (answered x) = declined why

-- What the keys are then.
module _ (form : Form) where
  pub keys-repeated : (n : ℕ) (before left : List ℕ) → met before (keys_frames form n left) ≡ true → keys form n before left ≡ declined (refusal never_written [])
  unfolding keys keys_frames
  keys-repeated zero before left e = absurd (let z : ◌≡◌ {A = Bool} false true = e in cc)
  keys-repeated (suc n) before left e = go (key form left) e (λ frame l. keys-repeated n (frame ∷ before) l)
    where
      go : (a : Answer (FieldsKey × List ℕ)) → met before (frame_and a (keys_frames form n)) ≡ true → ((frame : ℕ) (l : List ℕ) → met (frame ∷ before) (keys_frames form n l) ≡ true → keys form n (frame ∷ before) l ≡ declined (refusal never_written [])) → and_then a (λ k left'. and_then (refuse_if (member k.frame before) never_written left') (λ _ left''. and_then (keys form n (k.frame ∷ before) left'') (λ ks l. answered (k ∷ ks, l)))) ≡ declined (refusal never_written [])
      go (declined why) e again = absurd (let z : ◌≡◌ {A = Bool} false true = e in cc)
      go (answered (k, l)) e again = here (member k.frame before) e
        where
          here : (b : Bool) → b || met (k.frame ∷ before) (keys_frames form n l) ≡ true → and_then (refuse_if b never_written l) (λ _ left''. and_then (keys form n (k.frame ∷ before) left'') (λ ks l. answered (k ∷ ks, l))) ≡ declined (refusal never_written [])
          here true e = refl
          here false e = rw (again k.frame l e) refl

  abbrev counted : ℕ → Answer (Unit {0} × List ℕ) → Answer (ℕ × List ℕ)
  counted n a = and_then a (λ _ left. answered (n, left))

  one-more : (n : ℕ) (k : FieldsKey) (a : Answer (List FieldsKey × List ℕ)) (b : Answer (Unit {0} × List ℕ)) → how_many a ≡ counted n b → how_many (and_then a (λ ks l. answered (k ∷ ks, l))) ≡ counted (suc n) b
  one-more n k a b e = front a ∙ ap longer e ∙ sym (back b)
    where
      longer : Answer (ℕ × List ℕ) → Answer (ℕ × List ℕ)
      longer c = and_then c (λ m l. answered (suc m, l))

      front : (a : Answer (List FieldsKey × List ℕ)) → how_many (and_then a (λ ks l. answered (k ∷ ks, l))) ≡ longer (how_many a)
      front (answered (ks, l)) = refl
      front (declined why) = refl

      back : (b : Answer (Unit {0} × List ℕ)) → counted (suc n) b ≡ longer (counted n b)
      back (answered (u, l)) = refl
      back (declined why) = refl

  pub keys-apart : (n : ℕ) (before left : List ℕ) → met before (keys_frames form n left) ≡ false → how_many (keys form n before left) ≡ counted n (passed_keys form n left)
  unfolding keys keys_frames passed_keys
  keys-apart zero before left e = refl
  keys-apart (suc n) before left e = go (key form left) e (λ frame l. keys-apart n (frame ∷ before) l)
    where
      go : (a : Answer (FieldsKey × List ℕ)) → met before (frame_and a (keys_frames form n)) ≡ false → ((frame : ℕ) (l : List ℕ) → met (frame ∷ before) (keys_frames form n l) ≡ false → how_many (keys form n (frame ∷ before) l) ≡ counted n (passed_keys form n l)) → how_many (and_then a (λ k left'. and_then (refuse_if (member k.frame before) never_written left') (λ _ left''. and_then (keys form n (k.frame ∷ before) left'') (λ ks l. answered (k ∷ ks, l))))) ≡ counted (suc n) (and_then a (λ k. passed_keys form n))
      go (declined why) e again = refl
      go (answered (k, l)) e again = here (member k.frame before) e
        where
          here : (b : Bool) → b || met (k.frame ∷ before) (keys_frames form n l) ≡ false → how_many (and_then (refuse_if b never_written l) (λ _ left''. and_then (keys form n (k.frame ∷ before) left'') (λ ks l. answered (k ∷ ks, l)))) ≡ counted (suc n) (passed_keys form n l)
          here true e = absurd (let z : ◌≡◌ {A = Bool} true false = e in cc)
          here false e = one-more n k (keys form n (k.frame ∷ before) l) (passed_keys form n l) (again k.frame l e)

  -- The frames that a skipping pass sees are those that were read.
  same-frames : (n : ℕ) (left : List ℕ) → frames form (length (keys_frames form n left)) left ≡ keys_frames form n left
  unfolding keys_frames frames
  same-frames zero left = refl
  same-frames (suc n) left = go (key form left) refl (same-frames n)
    where
      go : (a : Answer (FieldsKey × List ℕ)) → key form left ≡ a → ((l : List ℕ) → frames form (length (keys_frames form n l)) l ≡ keys_frames form n l) → frames form (length (frame_and a (keys_frames form n))) left ≡ frame_and a (keys_frames form n)
      go (answered (k, l)) is again = frames-of-key form (length (keys_frames form n l)) left k l is ∙ ap (λ fs. k.frame ∷ fs) (again l)
      go (declined why) is again = refl

module _ (form : Form) (count : ℕ) (strip : List ℕ) (at : ℕ) where
  abbrev pub read_frames : List ℕ
  read_frames = keys_frames form count (drop at strip)

  pub rise-apart : (pass : KeysPass) → PassesKeys form count strip at pass → pass.rise ≡ true → KeysAre form count strip at (record { end = pass.end; repeated = false })
  rise-apart pass p rise = record { ends = p.ends; repeated = sym (sym (met-repeats read_frames) ∙ rising-new 0 [] read_frames tt (sym p.rises ∙ rise)) }

  pub looked-for : (pass : KeysPass) (repeated : Bool) → PassesKeys form count strip at pass → repeated ≡ repeats (frames form pass.read (drop at strip)) → KeysAre form count strip at (record { end = pass.end; repeated = repeated })
  looked-for pass repeated p is = record { ends = p.ends; repeated = is ∙ ap (λ n. repeats (frames form n (drop at strip))) p.reads ∙ ap repeats (same-frames form count (drop at strip)) }

  module _ (found : KeysFound) (k : KeysAre form count strip at found) where
    pub twice : found.repeated ≡ true → keys form count [] (drop at strip) ≡ declined (refusal never_written [])
    twice e = keys-repeated form count [] (drop at strip) (met-repeats read_frames ∙ sym k.repeated ∙ e)

    apart : found.repeated ≡ false → how_many (keys form count [] (drop at strip)) ≡ counted form count (end_read strip found.end)
    apart e = keys-apart form count [] (drop at strip) (met-repeats read_frames ∙ sym k.repeated ∙ e) ∙ ap (counted form count) (sym k.ends)

    pub all-apart : (next : ℕ) → found.repeated ≡ false → found.end ≡ Ok next → how_many (keys form count [] (drop at strip)) ≡ answered (count, drop next strip)
    all-apart next e is = apart e ∙ ap (λ end. counted form count (end_read strip end)) is

    pub none-apart : (why : ReaderRefusal) → found.repeated ≡ false → found.end ≡ Err why → keys form count [] (drop at strip) ≡ declined (reader_refusal why)
    none-apart why e is = only-declined (keys form count [] (drop at strip)) (reader_refusal why) (apart e ∙ ap (λ end. counted form count (end_read strip end)) is)

pub ruleset finding = (rise-apart, looked-for)

pub ruleset judging = (twice, all-apart, none-apart)
