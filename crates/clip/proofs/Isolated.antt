-- Where the indices passed the scan, a record with both links 0 is isolated: they are in range, and no two of them are equal. Assumes
-- nothing.
use Prim.Native.Nat.{ℕ, ◌<◌}
use native.Mathlib.Omega.{arith}
use mathlib.Core.Path.{◌≡◌}
use borrow.Author.Tests.{lt-leb}
use Rattle.layout.specs.Numbers.{least_negative}
use Rattle.clip.specs.Fields.{Records}
use Rattle.clip.specs.Scan.{Indexed}
use Rattle.clip.specs.Matched.{Isolated}

pub isolated : {B : Type 0} (r : Records B) → Indexed r → (q : ℕ) → q < r.additional → (r.at q).previous ≡ 0 → (r.at q).next ≡ 0 → Isolated r q
isolated r x q lt previous next =
    let low = x.positive q lt in
    record {
      previous = previous;
      next = next;
      positive = lt-leb least_negative (r.at q).index (omega (arith, low));
      above = x.above q lt;
      alone = λ p lp other same. other (x.apart p q lp lt same);
    }
