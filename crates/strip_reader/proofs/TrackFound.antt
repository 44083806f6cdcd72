-- A track found among those of its kind, and those among the tracks of a strip. Assumes nothing.
use Rattle.std.proofs.Common.{◌≡◌, ℕ, zero, suc, ◌≤◌, ◌<◌, List, [], ◌∷◌, length, drop, refl, sym, ap, ◌∙◌, arith, length-drop}
use mathlib.Core.Path.{subst}
use Rattle.std.specs.Prelude.{Option, Some, None}
use Rattle.std.specs.List.{slice_get}
use Rattle.std.proofs.lemmas.{List.{drop_all}, Option.{slice_get_past}}
use Rattle.layout.specs.Walk.{Answer, answered, declined}
use Rattle.section.specs.Limits.{edition1}
use Rattle.clip.specs.Fields.{Kind, bone, morph}
use Rattle.strip.specs.Strip.{count_width, FieldsKey}
use Rattle.strip_reader.specs.Key.{Form, form_of}
use Rattle.strip_reader.specs.Stands.{TracksAt, FindsTracks}
use Rattle.strip_reader.specs.Tracks.{TrackOf, FindsTrack, FindsInAccepted, TrackIn, track_keys}
use Rattle.strip_reader.specs.Front
use Rattle.strip_reader.specs.Read.{read_strip}
use Rattle.strip.specs.Strip.{Contents}
use Rattle.clip.proofs.Follow.{no_answer}
use Rattle.strip_reader.specs.declared.refusal.ReaderRefusal.{ReaderRefusal}
use Rattle.strip_reader.proofs.Found.{count-is, no-count}
use Rattle.strip_reader.specs.Answers.{reader_refusal, counts, key_count, tracks_of, there, of_contents}
use Rattle.strip_reader.specs.declared.counts.StripCounts.{StripCounts}
use Rattle.strip_reader.proofs.Standing.{TracksOf, Accepted, accepted, strip-stands}

pub get-drop : {A : Type 0} (n : ℕ) (xs : List A) (x : A) (rest : List A) → drop n xs ≡ x ∷ rest → slice_get xs n ≡ Some x
get-drop zero [] x rest e = absurd (let z : ◌≡◌ {A = ℕ} 0 (suc (length rest)) = ap length e in omega (arith, z))
get-drop zero (y ∷ ys) x rest e = let z : y ≡ x = cc in ap Some z
get-drop (suc n) [] x rest e = absurd (let z : ◌≡◌ {A = ℕ} 0 (suc (length rest)) = ap length e in omega (arith, z))
get-drop (suc n) (y ∷ ys) x rest e = get-drop n ys x rest e

module _ (form : Form) (strip : List ℕ) (at count number : ℕ) where
  abbrev Stand : List (List FieldsKey) → List ℕ → Type 0
  Stand tracks behind = TracksAt form tracks (drop at strip) behind

  pub not-there : count ≤ number → (tracks : List (List FieldsKey)) (behind : List ℕ) → Stand tracks behind → length tracks ≡ count → slice_get tracks number ≡ None
  not-there past tracks behind stands many = slice_get_past tracks number (omega (arith, many))

  pub is-there :
      (found : Option ℕ) → number < count
      → ((tracks : List (List FieldsKey)) (behind : List ℕ) → Stand tracks behind → number ≤ length tracks → FindsTracks form (drop number tracks) strip behind found)
      → (tracks : List (List FieldsKey)) (behind : List ℕ) → Stand tracks behind → length tracks ≡ count → FindsTrack form tracks number strip found
  is-there None within finds tracks behind stands many = absurd (finds tracks behind stands (omega (arith, many)))
  is-there (Some to) within finds tracks behind stands many = go (drop number tracks) refl (finds tracks behind stands (omega (arith, many)))
    where
      go : (rest : List (List FieldsKey)) → drop number tracks ≡ rest → TracksAt form rest (drop to strip) behind → TrackOf form tracks number strip to
      go [] e there = absurd (let l = length-drop number tracks in let none = ap length e in omega (arith, l, none, many))
      go (ks ∷ others) e there = record { keys = ks; is = get-drop number tracks ks others e; others = others; behind = behind; stands = there }

-- Among the tracks of a strip that was judged.
module _ (s : List ℕ) (told : StripCounts) (is : answered told ≡ counts edition1 count_width s) where
  holds : Accepted s told
  holds = accepted s told is

  tracks-held : TracksOf (accepted s told is).holds (drop 4 s) []
  tracks-held = strip-stands edition1 s (accepted s told is).holds (accepted s told is).read

  in-strip : (kind : Kind) (number : ℕ) (found : Option ℕ) → FindsTrack (form_of kind) (tracks_of kind (accepted s told is).holds) number s found → FindsInAccepted s kind number found
  in-strip kind number None none = rw ((accepted s told is).read, none) refl
  in-strip kind number (Some at) t = record { keys = t.keys; is = rw ((accepted s told is).read, t.is) refl; others = t.others; behind = t.behind; stands = t.stands }

  pub bones-found :
      (number : ℕ) (found : Option ℕ)
      → ((tracks : List (List FieldsKey)) (behind : List ℕ) → TracksAt (form_of bone) tracks (drop 4 s) behind → length tracks ≡ told.bones → FindsTrack (form_of bone) tracks number s found)
      → FindsInAccepted s bone number found
  bones-found number found finds = in-strip bone number found (finds (accepted s told is).holds.bones tracks-held.0 tracks-held.1 (accepted s told is).bones)

  module _ (middle : Option ℕ) (passed : (tracks : List (List FieldsKey)) (behind : List ℕ) → TracksAt (form_of bone) tracks (drop 4 s) behind → told.bones ≤ length tracks → FindsTracks (form_of bone) (drop told.bones tracks) s behind middle) where
    all-passed : FindsTracks (form_of bone) (drop told.bones (accepted s told is).holds.bones) s tracks-held.0 middle
    all-passed = passed (accepted s told is).holds.bones tracks-held.0 tracks-held.1 (let many = (accepted s told is).bones in omega (arith, many))

    none-left : (at : ℕ) → FindsTracks (form_of bone) (drop told.bones (accepted s told is).holds.bones) s tracks-held.0 (Some at) → drop at s ≡ tracks-held.0
    none-left at there =
        let none : drop told.bones (accepted s told is).holds.bones ≡ [] = drop_all told.bones (accepted s told is).holds.bones (let many = (accepted s told is).bones in omega (arith, many)) in
        subst (λ (ts : List (List FieldsKey)). TracksAt (form_of bone) ts (drop at s) tracks-held.0) none there

    pub morphs-found :
        (at number : ℕ) (found : Option ℕ) → middle ≡ Some at
        → ((tracks : List (List FieldsKey)) (behind : List ℕ) → TracksAt (form_of morph) tracks (drop at s) behind → length tracks ≡ told.morphs → FindsTrack (form_of morph) tracks number s found)
        → FindsInAccepted s morph number found
    morphs-found at number found e finds =
        let there : drop at s ≡ tracks-held.0 = none-left at (subst (λ m. FindsTracks (form_of bone) (drop told.bones (accepted s told is).holds.bones) s tracks-held.0 m) e all-passed) in
        let stand : TracksAt (form_of morph) (accepted s told is).holds.morphs (drop at s) [] = subst (λ (l : List ℕ). TracksAt (form_of morph) (accepted s told is).holds.morphs l []) (sym there) tracks-held.2 in
        in-strip morph number found (finds (accepted s told is).holds.morphs [] stand (accepted s told is).morphs)

    pub no-middle : middle ≡ None → ⊥
    no-middle e = subst (λ m. FindsTracks (form_of bone) (drop told.bones (accepted s told is).holds.bones) s tracks-held.0 m) e all-passed

pub ruleset of_kind = (not-there, is-there)

pub ruleset in_accepted = (bones-found, no-middle)

-- What is answered of a track: by its keys.
abbrev pub of_keys : {A : Type 0} → Answer (List FieldsKey) → (List FieldsKey → Answer A) → Answer A
of_keys (answered ks) f = f ks
of_keys (declined why) f = declined why

module _ (s : List ℕ) (kind : Kind) (number : ℕ) where
  pub by-keys : {A : Type 0} (f : List FieldsKey → Answer A) → of_contents (read_strip edition1 count_width s) (λ c. there (slice_get (tracks_of kind c) number) f) ≡ of_keys (track_keys s kind number) f
  by-keys f = go (read_strip edition1 count_width s)
    where
      of_track : (o : Option (List FieldsKey)) → there o f ≡ of_keys (there o (λ ks. answered ks)) f
      of_track None = refl
      of_track (Some ks) = refl

      go : (a : Answer Contents) → of_contents a (λ c. there (slice_get (tracks_of kind c) number) f) ≡ of_keys (of_contents a (λ c. there (slice_get (tracks_of kind c) number) (λ ks. answered ks))) f
      go (answered c) = of_track (slice_get (tracks_of kind c) number)
      go (declined why) = refl

  pub no-counts : (why : ReaderRefusal) → declined (reader_refusal why) ≡ counts edition1 count_width s → track_keys s kind number ≡ declined (reader_refusal why)
  unfolding counts
  no-counts why e = go (read_strip edition1 count_width s) e
    where
      go : (a : Answer Contents) → ◌≡◌ {A = Answer StripCounts} (declined (reader_refusal why)) (of_contents a (λ c. answered (record { bones = length c.bones; morphs = length c.morphs }))) → of_contents a (λ c. there (slice_get (tracks_of kind c) number) (λ ks. answered ks)) ≡ declined (reader_refusal why)
      go (answered c) e = no_answer e
      go (declined why') e = sym (same e)
        where
          again : Answer StripCounts → Answer (List FieldsKey)
          again (answered x) = declined why'
          again (declined w) = declined w

          same : ◌≡◌ {A = Answer StripCounts} (declined (reader_refusal why)) (declined why') → ◌≡◌ {A = Answer (List FieldsKey)} (declined (reader_refusal why)) (declined why')
          same e = ap again e

  pub no-track-count : (why : ReaderRefusal) → track_keys s kind number ≡ declined (reader_refusal why) → declined (reader_refusal why) ≡ key_count edition1 count_width kind number s
  unfolding key_count
  no-track-count why e = sym (by-keys (λ ks. answered (length ks)) ∙ ap (λ a. of_keys a (λ ks. answered (length ks))) e)

  pub track-count : (at count first : ℕ) → TrackIn s kind number at → answered (count, drop first s) ≡ Front.number count_width (drop at s) → answered count ≡ key_count edition1 count_width kind number s
  unfolding key_count
  track-count at count first t e =
      let many = count-is (form_of kind) s (drop at s) t.keys t.others t.behind t.stands count first e in
      sym (by-keys (λ ks. answered (length ks)) ∙ ap (λ a. of_keys a (λ ks. answered (length ks))) t.is ∙ ap answered (sym many))

  pub no-such-count : (at : ℕ) (why : ReaderRefusal) → TrackIn s kind number at → declined (reader_refusal why) ≡ Front.number count_width (drop at s) → ⊥
  no-such-count at why t e = no-count (form_of kind) s (drop at s) t.keys t.others t.behind t.stands (reader_refusal why) e

pub ruleset in_strip = (no-counts)

pub ruleset counted = (no-track-count, track-count, no-such-count)
