-- A strip judged: its length, its counts, the tracks of both kinds, and what is left. Assumes nothing.
use Rattle.std.proofs.Common.{◌≡◌, ℕ, ◌≤◌, ◌<◌, List, [], ◌∷◌, length, drop, refl, sym, ap, ◌∙◌, arith, length-drop}
use borrow.Author.Tests.{lt-ltb, le-ltb}
use Rattle.std.proofs.lemmas.List.{drop_all}
use Rattle.layout.specs.Refusals.{strip_not_whole, too_long}
use Rattle.layout.specs.Walk.{refusal, Answer, answered, declined}
use Rattle.section.specs.Limits.{edition1}
use Rattle.clip.specs.Fields.{bone, morph}
use Rattle.strip.specs.Strip.{count_width, FieldsKey, Contents}
use Rattle.strip_reader.specs.Answers.{reader_refusal, of_contents, counts}
use Rattle.strip_reader.specs.Front.{and_then, number}
use Rattle.strip_reader.specs.Key.{form_of}
use Rattle.strip_reader.specs.Read.{tracks, contents, all_read, read_strip}
use Rattle.strip_reader.specs.Judge.{how_many, Stops, Counted}
use Rattle.strip_reader.specs.declared.{refusal.ReaderRefusal.{ReaderRefusal}, judge.Stop.{Stop}, counts.StripCounts.{StripCounts}}
use Rattle.strip_reader.proofs.JudgedTracks.{counted-keys}

module _ (s : List ℕ) where
  abbrev judged : Answer (Contents × List ℕ) → Answer StripCounts
  judged a = of_contents (all_read a) (λ c. answered (record { bones = length c.bones; morphs = length c.morphs }))

  pub too-long : edition1.bytes < length s → counts edition1 count_width s ≡ declined (refusal too_long [])
  unfolding counts read_strip
  too-long above = rw (lt-ltb edition1.bytes (length s) above) refl

  module _ (within : length s ≤ edition1.bytes) where
    short-enough : counts edition1 count_width s ≡ judged (contents edition1 count_width s)
    unfolding counts read_strip
    short-enough = rw (le-ltb edition1.bytes (length s) within) refl

    pub no-bone-count : (why : ReaderRefusal) → declined (reader_refusal why) ≡ number count_width (drop 0 s) → counts edition1 count_width s ≡ declined (reader_refusal why)
    unfolding contents
    no-bone-count why e = short-enough ∙ rw (sym e) refl

    pub no-morph-count : (why : ReaderRefusal) (n : ℕ) (middle : List ℕ) → answered (n, middle) ≡ number count_width (drop 0 s) → declined (reader_refusal why) ≡ number count_width middle → counts edition1 count_width s ≡ declined (reader_refusal why)
    unfolding contents
    no-morph-count why n middle is e = short-enough ∙ rw (sym is, sym e) refl

    pub both-counts : (at n m : ℕ) (middle : List ℕ) → answered (n, middle) ≡ number count_width (drop 0 s) → answered (m, drop at s) ≡ number count_width middle → Counted s at n m
    both-counts at n m middle is also = record { within = within; middle = middle; bones = is; morphs = also }

  module _ (at n m : ℕ) (c : Counted s at n m) where
    abbrev bone_tracks : Answer (List (List FieldsKey) × List ℕ)
    bone_tracks = tracks (form_of bone) edition1 count_width n 0 (drop at s)

    abbrev morph_tracks : List ℕ → Answer (List (List FieldsKey) × List ℕ)
    morph_tracks left = tracks (form_of morph) edition1 count_width m 0 left

    from-tracks : counts edition1 count_width s ≡ judged (and_then bone_tracks (λ bones left. and_then (morph_tracks left) (λ morphs left'. answered (record { bones = bones; morphs = morphs }, left'))))
    unfolding contents
    from-tracks = short-enough c.within ∙ rw (sym c.bones, sym c.morphs) refl

    pub bones-stop : (space : List ℕ) (why : Stop) → Stops space why bone_tracks → Stops space why (counts edition1 count_width s)
    bones-stop space (Stop.Refused why) e = from-tracks ∙ rw e refl
    bones-stop space Stop.NoSpace e = e

    module _ (next : ℕ) (bones-are : how_many bone_tracks ≡ answered (n, drop next s)) where
      pub morphs-stop : (space before : List ℕ) → length space ≡ length before → (why : Stop) → Stops space why (morph_tracks (drop next s)) → Stops before why (counts edition1 count_width s)
      morphs-stop space before long (Stop.Refused why) e = let b = counted-keys bone_tracks n (drop next s) bones-are in from-tracks ∙ rw (b.is, e) refl
      morphs-stop space before long Stop.NoSpace e = sym long ∙ e

      module _ (end : ℕ) (morphs-are : how_many (morph_tracks (drop next s)) ≡ answered (m, drop end s)) where
        all-tracks : (bones morphs : List (List FieldsKey)) (left : List ℕ) → bone_tracks ≡ answered (bones, drop next s) → morph_tracks (drop next s) ≡ answered (morphs, left) → counts edition1 count_width s ≡ judged (answered (record { bones = bones; morphs = morphs }, left))
        all-tracks bones morphs left be me = from-tracks ∙ rw (be, me) refl

        pub left-over : end < length s → counts edition1 count_width s ≡ declined (refusal strip_not_whole [])
        left-over more = go (drop end s) refl
          where
            go : (left : List ℕ) → drop end s ≡ left → counts edition1 count_width s ≡ declined (refusal strip_not_whole [])
            go [] e = absurd (let l = length-drop end s in let none = ap length e in omega (arith, l, none, more))
            go (byte ∷ left) e =
                let b = counted-keys bone_tracks n (drop next s) bones-are in
                let k = counted-keys (morph_tracks (drop next s)) m (drop end s) morphs-are in
                all-tracks b.keys k.keys (byte ∷ left) b.is (k.is ∙ ap (λ (l : List ℕ). answered (k.keys, l)) e)

        pub none-left : length s ≤ end → counts edition1 count_width s ≡ answered (record { bones = n; morphs = m })
        none-left past =
            let b = counted-keys bone_tracks n (drop next s) bones-are in
            let k = counted-keys (morph_tracks (drop next s)) m (drop end s) morphs-are in
            all-tracks b.keys k.keys [] b.is (k.is ∙ ap (λ (l : List ℕ). answered (k.keys, l)) (drop_all end s past)) ∙ rw (b.long, k.long) refl

pub ruleset counts_judged = (too-long, no-bone-count, no-morph-count, both-counts)
