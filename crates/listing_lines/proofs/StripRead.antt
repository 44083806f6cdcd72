-- What a call for a strip's keys tells of the strip: it is read and has so many keys, or it is refused. Assumes nothing.
use Rattle.std.proofs.Common.{ℕ, List, ◌≡◌, sym, ap, ◌∙◌, Ok, Err}
use Rattle.layout.specs.Walk.{Refusal, Answer, answered, declined}
use Rattle.section.specs.Limits.{edition1}
use Rattle.clip.proofs.Follow.{answer-is, no_answer}
use Rattle.strip.specs.Strip.{count_width, Contents}
use Rattle.strip_reader.specs.{Read.{read_strip}, Run.{KeysCall}, Answers.{reader_refusal, rows_written, keys}}
use Rattle.strip_reader.specs.declared.refusal.ReaderRefusal.{ReaderRefusal}
use Rattle.listing_lines.specs.Lines.{all_keys}
use Rattle.listing_lines.proofs.RowLines.{count-strip}

refusal-is : {why why' : Refusal} → ◌≡◌ {A = Answer ℕ} (declined why) (declined why') → why ≡ why'
refusal-is e = cc

-- By what reading the strip gives.
answers : (first : ℕ) (old : List ℕ) → Answer Contents → Answer ℕ
answers first old a = (rows_written first old a).answer

module _ {strip : List ℕ} {first : ℕ} {old new : List ℕ} where
  pub found : (count : ℕ) (a : Answer Contents) → KeysCall strip first old (Ok count) new → read_strip edition1 count_width strip ≡ a
      → (c : Contents) × (read_strip edition1 count_width strip ≡ answered c) × (count ≡ all_keys c)
  unfolding keys answers
  found count (answered c) call is = (c, is, answer-is (call.answers ∙ ap (answers first old) is) ∙ count-strip c)
  found count (declined why) call is = no_answer (sym (call.answers ∙ ap (answers first old) is))

  pub refused : (why : ReaderRefusal) (a : Answer Contents) → KeysCall strip first old (Err why) new → read_strip edition1 count_width strip ≡ a
      → read_strip edition1 count_width strip ≡ declined (reader_refusal why)
  unfolding keys answers
  refused why (answered c) call is = no_answer (call.answers ∙ ap (answers first old) is)
  refused why (declined why') call is = is ∙ ap (λ (w : Refusal). declined w) (sym (refusal-is (call.answers ∙ ap (answers first old) is)))
