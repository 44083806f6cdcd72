-- From what a call answers back to what was read: the strip's contents, and in them the track. Assumes nothing.
use Rattle.std.proofs.Common.{◌≡◌, ℕ, List, length, Option, Some, None, Ok, refl, sym, ap, arith}
use Rattle.std.specs.List.{slice_get}
use Rattle.layout.specs.{Walk.{Refusal, Answer, answered, declined}}
use Rattle.section.specs.Limits.{edition1}
use Rattle.clip.specs.Fields.{Kind}
use Rattle.strip.specs.Strip.{count_width, FieldsKey, Contents}
use Rattle.blocks.specs.{Kind.{kind_of}, Track.{kind_of_track, number_of_track}}
use Rattle.blocks.specs.declared.track.TrackIndex.{TrackIndex}
use Rattle.strip_reader.specs.{Read.{read_strip}, Answers.{tracks_of, there, of_contents, counts, key_count}, Run.{CountsCall, KeyCountCall}}
use Rattle.strip_reader.specs.declared.{counts.StripCounts.{StripCounts}}

abbrev pub read : List ℕ → Answer Contents
read strip = read_strip edition1 count_width strip

abbrev pub kind : TrackIndex → Kind
kind track = kind_of (kind_of_track track)

-- The tracks of this track's kind.
abbrev pub among : TrackIndex → Contents → List (List FieldsKey)
among track c = tracks_of (kind track) c

same-answer : {A : Type 0} (a b : A) → answered a ≡ answered b → a ≡ b
same-answer a b e = cc

module _ {A : Type 0} where
  -- What was answered of contents that were read.
  pub record OfContents (r : Answer Contents) (f : Contents → Answer A) (a : A) : Type 0 where
    pub contents : Contents
    pub is : r ≡ answered contents
    pub answers : f contents ≡ answered a

  of-contents : (r : Answer Contents) (f : Contents → Answer A) (a : A) → answered a ≡ of_contents r f → OfContents r f a
  of-contents (answered c) f a e = record { contents = c; is = refl; answers = sym e }
  of-contents (declined why) f a e = absurd (let z : ◌≡◌ {A = ℕ} 0 1 = cc in omega arith)

  pub of-refused : (r : Answer Contents) (f : Contents → A) (why : Refusal) → declined why ≡ of_contents r (λ c. answered (f c)) → r ≡ declined why
  of-refused (answered c) f why e = absurd (let z : ◌≡◌ {A = ℕ} 0 1 = cc in omega arith)
  of-refused (declined other) f why e = let same : other ≡ why = cc in ap (λ (w : Refusal). declined w) same

  -- What is there.
  pub record There {B : Type 0} (o : Option B) (f : B → Answer A) (a : A) : Type 0 where
    pub value : B
    pub is : o ≡ Some value
    pub answers : f value ≡ answered a

  was-there : {B : Type 0} (o : Option B) (f : B → Answer A) (a : A) → there o f ≡ answered a → There o f a
  was-there (Some b) f a e = record { value = b; is = refl; answers = e }
  was-there None f a e = absurd (let z : ◌≡◌ {A = ℕ} 0 1 = cc in omega arith)

pub record Counted (strip : List ℕ) (n : StripCounts) : Type 0 where
  pub contents : Contents
  pub is : read strip ≡ answered contents
  pub counts : n ≡ record { bones = length contents.bones; morphs = length contents.morphs }

pub counted : (strip : List ℕ) (n : StripCounts) → CountsCall strip (Ok n) → Counted strip n
unfolding counts
counted strip n call =
    let r = of-contents (read strip) (λ c. answered (record { bones = length c.bones; morphs = length c.morphs })) n call in
    record { contents = r.contents; is = r.is; counts = sym (same-answer _ n r.answers) }

pub record KeysCounted (strip : List ℕ) (track : TrackIndex) (n : ℕ) : Type 0 where
  pub contents : Contents
  pub is : read strip ≡ answered contents
  pub keys : List FieldsKey
  pub at : slice_get (among track contents) (number_of_track track) ≡ Some keys
  pub number : n ≡ length keys

pub keys-counted : (strip : List ℕ) (track : TrackIndex) (n : ℕ) → KeyCountCall strip track (Ok n) → KeysCounted strip track n
unfolding key_count
keys-counted strip track n call =
    let r = of-contents (read strip) (λ c. there (slice_get (among track c) (number_of_track track)) (λ ks. answered (length ks))) n call in
    let t = was-there (slice_get (among track r.contents) (number_of_track track)) (λ ks. answered (length ks)) n r.answers in
    record { contents = r.contents; is = r.is; keys = t.value; at = t.is; number = sym (same-answer _ n t.answers) }
