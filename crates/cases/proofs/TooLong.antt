-- Refusal 16, which no program of the tests can be lent enough bytes for. Assumes nothing.
use Prim.Native.Nat.{ℕ, ◌<◌}
use mathlib.Core.List.{List, []}
use mathlib.Core.Path.{◌≡◌, sym, subst}
use borrow.Author.Tests.{lt-ltb}
use lib.Dec.{ltb}
use lib.ListN.{length, length-replicate}
use Rattle.std.proofs.Math.Bool.{or-true}
use Rattle.layout.specs.Walk.{refusal, declined}
use Rattle.section.specs.Limits.{edition1}
use Rattle.section.specs.Model.{model_section}
use Rattle.section.specs.Summary.{model_summary}
use Rattle.strip.specs.Strip.{count_width}
use Rattle.strip.specs.Call.{untouched, strip_call}
use Rattle.strip_reader.specs.Read.{read_strip}
use Rattle.asset_references.specs.Index.{asset_reference_index_for_path}
use Rattle.answer_cases.specs.Bytes.{zeros}

pub too_long : (s : List ℕ) (start : ℕ) → 16777215 < length s → model_summary edition1 s start ≡ declined (refusal 16 [])
unfolding model_summary model_section
too_long s start long = rw (lt-ltb 16777215 (length s) long)

pub strip-too-long : (s : List ℕ) (start : ℕ) (first second output : List ℕ) → 16777215 < length s → strip_call edition1 count_width s start first second output ≡ untouched first second output (refusal 16 [])
unfolding strip_call model_section
strip-too-long s start first second output long = rw (lt-ltb 16777215 (length s) long)

pub strip-read-too-long : (s : List ℕ) → 16777215 < length s → read_strip edition1 count_width s ≡ declined (refusal 16 [])
unfolding read_strip
strip-read-too-long s long = rw (lt-ltb 16777215 (length s) long)

pub path-too-long : (path list : List ℕ) → 16777215 < length path → asset_reference_index_for_path edition1 path list ≡ declined (refusal 16 [])
path-too-long path list long = rw (lt-ltb 16777215 (length path) long)

pub list-too-long : (path list : List ℕ) → 16777215 < length list → asset_reference_index_for_path edition1 path list ≡ declined (refusal 16 [])
list-too-long path list long = rw (lt-ltb 16777215 (length list) long, or-true (ltb 16777215 (length path)))

-- Zero bytes, more of them than the limit.
pub zeros-too-long : (n start : ℕ) → 16777215 < n → model_summary edition1 (zeros n) start ≡ declined (refusal 16 [])
zeros-too-long n start long = too_long (zeros n) start (subst (λ (k : ℕ). 16777215 < k) (sym (length-replicate {A = ℕ} n 0)) long)
