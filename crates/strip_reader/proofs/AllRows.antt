-- The call for all keys: a strip that is refused leaves the slice; of one that is accepted the tracks of both kinds are read, and the rows
-- put are those that the definition writes. Assumes nothing.
use Rattle.std.proofs.Common.{◌≡◌, ℕ, ◌+◌, List, [], ◌++◌, length, drop, refl, sym, ap, ◌∙◌, arith, Ok, Err, length-append}
use Rattle.layout.specs.Walk.{Refusal, Answer, answered, declined}
use Rattle.section.specs.Limits.{edition1}
use Rattle.clip.specs.Fields.{bone, morph}
use Rattle.clip.proofs.Follow.{answer-is, no_answer}
use Rattle.strip.specs.Strip.{count_width, Contents}
use Rattle.strip_reader.specs.{Read.{read_strip}, Answers.{reader_refusal, of_contents, counts, keys, kind_rows, rows}, Rows.{tracks_rows, rows_put, RowsPut}, Run.{KeysCall}}
use Rattle.strip_reader.specs.declared.{refusal.ReaderRefusal.{ReaderRefusal}, counts.StripCounts.{StripCounts}, all_keys.Reached.{Reached}}
use Rattle.strip_reader.proofs.{Standing.{strip-stands, Accepted, accepted}, RowsPut.{rows-put-append, all-put}, RowsRead.{tracks-read, rows-long}}

abbrev both_counts : Contents → Answer StripCounts
both_counts c = answered (record { bones = length c.bones; morphs = length c.morphs })

-- A refusal of the counts is one of the strip.
refused_by : (why : Refusal) (a : Answer Contents) → declined why ≡ of_contents a both_counts → a ≡ declined why
refused_by why (answered c) e = no_answer e
refused_by why (declined why') e = sym (ap of_refusal e)
  where
    of_refusal : Answer StripCounts → Answer Contents
    of_refusal (declined w) = declined w
    of_refusal (answered x) = declined why

module _ (s : List ℕ) where
  not_read : (why : Refusal) → declined why ≡ counts edition1 count_width s → read_strip edition1 count_width s ≡ declined why
  unfolding counts
  not_read why e = refused_by why (read_strip edition1 count_width s) e

  pub keys-refused : (first : ℕ) (old : List ℕ) (why : ReaderRefusal) → declined (reader_refusal why) ≡ counts edition1 count_width s → KeysCall s first old (Err why) old
  unfolding keys
  keys-refused first old why e =
      let is = not_read (reader_refusal why) e in
      record { answers = rw is refl; leaves = rw is refl }

  module _ (told : StripCounts) (counted : answered told ≡ counts edition1 count_width s) where
    abbrev all : Accepted s told
    all = accepted s told counted

    abbrev c : Contents
    c = all.holds

    abbrev of_bones : Answer (List (List ℕ) × List ℕ)
    of_bones = tracks_rows bone 0 told.bones (drop 4 s)

    abbrev of_morphs : List ℕ → Answer (List (List ℕ) × List ℕ)
    of_morphs left = tracks_rows morph 0 told.morphs left

    -- The rows of both kinds, one behind the other.
    record BothRead : Type 0 where
      middle : List ℕ
      bones : of_bones ≡ answered (kind_rows bone 0 c.bones, middle)
      morphs : of_morphs middle ≡ answered (kind_rows morph 0 c.morphs, [])

    both : BothRead
    both =
        let stand = strip-stands edition1 s c all.read in
        record {
          middle = stand.0;
          bones = ap (λ (n : ℕ). tracks_rows bone 0 n (drop 4 s)) (sym all.bones) ∙ tracks-read bone 0 c.bones (drop 4 s) stand.0 stand.1;
          morphs = ap (λ (n : ℕ). tracks_rows morph 0 n stand.0) (sym all.morphs) ∙ tracks-read morph 0 c.morphs stand.0 [] stand.2;
        }

    pub bones-read : {P : Type 0} (why : Refusal) → of_bones ≡ declined why → P
    bones-read why e = no_answer (sym e ∙ both.bones)

    module _ (first : ℕ) (old : List ℕ) (from bones : Reached) (middle : List ℕ) (b : RowsPut of_bones s from first old bones middle) where
      told_of_bones : ◌≡◌ {A = List (List ℕ) × List ℕ} (b.rows, drop bones.at s) (kind_rows bone 0 c.bones, both.middle)
      told_of_bones = answer-is (sym b.is ∙ both.bones)

      morphs_are : of_morphs (drop bones.at s) ≡ answered (kind_rows morph 0 c.morphs, [])
      morphs_are = ap of_morphs (ap (λ (p : List (List ℕ) × List ℕ). p.1) told_of_bones) ∙ both.morphs

      pub morphs-read : {P : Type 0} (why : Refusal) → of_morphs (drop bones.at s) ≡ declined why → P
      morphs-read why e = no_answer (sym e ∙ morphs_are)

      module _ (morphs : Reached) (new : List ℕ) (m : RowsPut (of_morphs (drop bones.at s)) s bones first middle morphs new) where
        all_rows : b.rows ++ m.rows ≡ rows c
        unfolding rows
        all_rows =
            let of_b : b.rows ≡ kind_rows bone 0 c.bones = ap (λ (p : List (List ℕ) × List ℕ). p.0) told_of_bones in
            let of_m : ◌≡◌ {A = List (List ℕ) × List ℕ} (m.rows, drop morphs.at s) (kind_rows morph 0 c.morphs, []) = answer-is (sym m.is ∙ morphs_are) in
            ap (λ (xs : List (List ℕ)). xs ++ m.rows) of_b ∙ ap (λ (xs : List (List ℕ)). kind_rows bone 0 c.bones ++ xs) (ap (λ (p : List (List ℕ) × List ℕ). p.0) of_m)

        all_put : from.number ≡ 0 → new ≡ rows_put first 0 (rows c) old
        all_put none =
            m.leaves
            ∙ ap (λ (n : ℕ). rows_put first n m.rows middle) b.counts
            ∙ ap (rows_put first (from.number + length b.rows) m.rows) b.leaves
            ∙ sym (rows-put-append first from.number b.rows m.rows old)
            ∙ ap (λ (xs : List (List ℕ)). rows_put first from.number xs old) all_rows
            ∙ ap (λ (n : ℕ). rows_put first n (rows c) old) none

        pub keys-put : from.number ≡ 0 → KeysCall s first old (Ok morphs.number) new
        unfolding keys
        keys-put none =
            let number : morphs.number ≡ length (rows c) =
            (let long = ap (length {A = List ℕ}) all_rows in omega (arith, none, b.counts, m.counts, length-append b.rows m.rows, long)) in
            record {
              answers = rw (all.read, number) refl;
              leaves = rw all.read (all_put none ∙ all-put first old (rows c) (rows-long c));
            }
