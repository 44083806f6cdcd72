-- A track judged: its count, its keys, and what is asked at its end. Assumes nothing.
use Rattle.std.proofs.Common.{◌≡◌, ℕ, suc, ◌+◌, ◌-◌, ◌≤◌, ◌<◌, Bool, true, false, ◌||◌, List, [], ◌∷◌, length, drop, eqb, ltb, refl, sym, ap, ◌∙◌, arith}
use borrow.Author.Tests.{lt-ltb, le-ltb, eq-eqb, ne_eqb}
use Rattle.layout.specs.Refusals.{never_written}
use Rattle.layout.specs.Walk.{Refusal, refusal, Answer, answered, declined}
use Rattle.clip.proofs.Follow.{answer-is, no_answer}
use Rattle.section.specs.Limits.{edition1}
use Rattle.strip.specs.Strip.{count_width, FieldsKey}
use Rattle.strip_reader.specs.Answers.{reader_refusal}
use Rattle.strip_reader.specs.Front.{and_then, number, refuse_if}
use Rattle.strip_reader.specs.Key.{Form}
use Rattle.strip_reader.specs.Read.{keys, track, tracks}
use Rattle.strip_reader.specs.Judge.{how_many, Stops, TrackFits}
use Rattle.strip_reader.specs.declared.{refusal.ReaderRefusal.{ReaderRefusal}, judge.Stop.{Stop}}

-- Keys of which it is known how many they are.
pub record CountedKeys {A : Type 0} (a : Answer (List A × List ℕ)) (count : ℕ) (left : List ℕ) : Type 0 where
  pub keys : List A
  pub is : a ≡ answered (keys, left)
  pub long : length keys ≡ count

pub counted-keys : {A : Type 0} (a : Answer (List A × List ℕ)) (count : ℕ) (left : List ℕ) → how_many a ≡ answered (count, left) → CountedKeys a count left
counted-keys (declined why) count left e = no_answer e
counted-keys (answered (ks, l)) count left e =
    let told : ◌≡◌ {A = ℕ × List ℕ} (length ks, l) (count, left) = answer-is e in
    let same : l ≡ left = ap (λ (p : ℕ × List ℕ). p.1) told in
    record { keys = ks; is = rw same refl; long = ap (λ (p : ℕ × List ℕ). p.0) told }

or-true : (b : Bool) → b || true ≡ true
or-true true = refl
or-true false = refl

module _ (form : Form) (additional : ℕ) (left : List ℕ) where
  abbrev whole : Answer (List FieldsKey × List ℕ)
  whole = track form edition1 count_width additional left

  pub no-count : (why : ReaderRefusal) → declined (reader_refusal why) ≡ number count_width left → whole ≡ declined (reader_refusal why)
  unfolding track
  no-count why e = rw (sym e) refl

  module _ (count : ℕ) (first : List ℕ) (is : answered (count, first) ≡ number count_width left) where
    pub keys-stop : (space : List ℕ) (why : Stop) → Stops space why (keys form count [] first) → Stops space why whole
    unfolding track
    keys-stop space (Stop.Refused why) e = rw (sym is, e) refl
    keys-stop space Stop.NoSpace e = e

    module _ (next : List ℕ) (read : how_many (keys form count [] first) ≡ answered (count, next)) where
      k : CountedKeys (keys form count [] first) count next
      k = counted-keys (keys form count [] first) count next read

      asked : (b : Bool) → eqb count 0 || ltb edition1.additional (additional + (count - 1)) ≡ b → whole ≡ and_then (refuse_if b never_written next) (λ _ left'. answered (k.keys, left'))
      unfolding track
      asked b e = rw (sym is, k.is, e) refl

      pub no-keys : count ≡ 0 → whole ≡ declined (refusal never_written [])
      no-keys none = asked true (rw (eq-eqb count 0 none) refl)

      pub too-many : edition1.additional < additional + (count - 1) → whole ≡ declined (refusal never_written [])
      too-many above = asked true (rw (lt-ltb edition1.additional (additional + (count - 1)) above) (or-true (eqb count 0)))

      pub fits : (count ≡ 0 → ⊥) → additional + (count - 1) ≤ edition1.additional → TrackFits whole additional (additional + (count - 1)) next
      fits some within =
          record {
            keys = k.keys;
            is = asked false (rw (ne_eqb count 0 some, le-ltb edition1.additional (additional + (count - 1)) within) refl);
            adds = ap (λ n. additional + (n - 1)) (sym k.long);
            within = within;
          }

pub ruleset judging_track = (no-count, keys-stop, no-keys, too-many, fits)

-- Tracks one behind the other: what is left gives what the whole gives.
module _ (form : Form) (count : ℕ) (strip : List ℕ) (at : ℕ) where
  abbrev all : Answer (List (List FieldsKey) × List ℕ)
  all = tracks form edition1 count_width count 0 (drop at strip)

  abbrev rest : ℕ → ℕ → ℕ → Answer (List (List FieldsKey) × List ℕ)
  rest done additional next = tracks form edition1 count_width (count - done) additional (drop next strip)

  -- A refusal of the rest is one of all; so many tracks more.
  pub record Judging (next done additional : ℕ) : Type 0 where
    pub within : additional ≤ edition1.additional
    pub stops : (why : Refusal) → rest done additional next ≡ declined why → all ≡ declined why
    pub ends : (n : ℕ) (left : List ℕ) → how_many (rest done additional next) ≡ answered (n, left) → how_many all ≡ answered (done + n, left)

  pub begins : Judging at 0 0
  begins =
      let full : count - 0 ≡ count = omega arith in
      record { within = omega arith; stops = λ why e. rw full at e; ends = λ n left e. rw full at e ∙ ap (λ m. answered (m, left)) (none-more n) }
    where
      none-more : (n : ℕ) → n ≡ 0 + n
      none-more n = omega arith

  module _ (next done additional : ℕ) (j : Judging next done additional) where
    one-less : done < count → count - done ≡ suc (count - (done + 1))
    one-less within = omega arith

    pub more : done < count → (sum behind : ℕ) → TrackFits (track form edition1 count_width additional (drop next strip)) additional sum (drop behind strip) → Judging behind (done + 1) sum
    unfolding tracks
    more within sum behind t =
        let fewer = one-less within in
        let step : rest done additional next ≡ and_then (rest (done + 1) sum behind) (λ others left. answered (t.keys ∷ others, left)) = rw (fewer, t.is, t.adds) refl in
        record {
          within = t.within;
          stops = λ why e. j.stops why (step ∙ ap (λ a. and_then a (λ others left. answered (t.keys ∷ others, left))) e);
          ends = λ n left e.
              let k = counted-keys (rest (done + 1) sum behind) n left e in
              let many : done + suc (length k.keys) ≡ done + 1 + n = (let long = k.long in omega (arith, long)) in
              j.ends (suc (length k.keys)) left (ap how_many (step ∙ ap (λ a. and_then a (λ others left. answered (t.keys ∷ others, left))) k.is)) ∙ ap (λ m. answered (m, left)) many;
        }

    pub track-stops : done < count → (space before : List ℕ) → length space ≡ length before → (why : Stop) → Stops space why (track form edition1 count_width additional (drop next strip)) → Stops before why all
    unfolding tracks
    track-stops within space before long (Stop.Refused why) e = j.stops (reader_refusal why) (let fewer = one-less within in rw (fewer, e) refl)
    track-stops within space before long Stop.NoSpace e = sym long ∙ e

    pub finished : count ≤ done → done ≤ count → how_many all ≡ answered (count, drop next strip)
    unfolding tracks
    finished all-done within =
        let none : count - done ≡ 0 = omega arith in
        let many : done + 0 ≡ count = omega arith in
        j.ends 0 (drop next strip) (rw none refl) ∙ ap (λ m. answered (m, drop next strip)) many
