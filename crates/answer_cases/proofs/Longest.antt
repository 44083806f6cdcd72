-- 16 is tested first, and where it is not met the section's parts are read. Assumes nothing.
use Prim.Native.Nat.{ℕ}
use mathlib.Core.List.{List}
use borrow.Author.Tests.{lt-ltb, le-ltb}
use lib.ListN.{length}
use Rattle.section.specs.Model.{model_section}
use Rattle.answer_cases.specs.Refusals.{LongestSection}

pub longest : (s : List ℕ) (start : ℕ) → LongestSection s start
unfolding model_section
longest s start =
    record {
      within = λ fits. rw (le-ltb 16777215 (length s) fits);
      above = λ long. rw (lt-ltb 16777215 (length s) long);
    }
