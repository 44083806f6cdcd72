-- So many bytes from an offset on are the part of the section that stands there: each one more is the one at its place. As many as two
-- parts have together are those of the one and then those of the other. Assumes nothing.
use Prim.Native.Nat.{ℕ, zero, suc, ◌+◌, ◌≤◌}
use native.Mathlib.Nat.{add_assoc, add-zero}
use native.Mathlib.Omega.{arith}
use mathlib.Core.List.{List, [], ◌∷◌, ◌++◌, append_assoc, append-nil}
use mathlib.Core.Path.{◌≡◌, refl, sym, ap, ◌∙◌}
use lib.ListN.{length, get_or, take, drop, length-drop}
use lib.Seq.{take-suc, get_or-drop}
use Rattle.layout.specs.Walk.{bytes_at}

pub bytes_part : (s : List ℕ) (at n : ℕ) → at + n ≤ length s → bytes_at s at n ≡ take n (drop at s)
unfolding bytes_at
bytes_part s at zero fits = refl
bytes_part s at (suc n) fits =
    rw (bytes_part s at n (omega arith), ← get_or-drop at s n 0) (sym (take-suc (drop at s) n 0 (omega (arith, length-drop at s))))

pub bytes_behind : (s : List ℕ) (at n m : ℕ) → bytes_at s at (n + m) ≡ bytes_at s at n ++ bytes_at s (at + n) m
unfolding bytes_at
bytes_behind s at n zero = ap (bytes_at s at) (add-zero n) ∙ sym (append-nil (bytes_at s at n))
bytes_behind s at n (suc m) =
    let more : n + suc m ≡ suc (n + m) = omega arith in
    ap (bytes_at s at) more
    ∙ ap (λ (bs : List ℕ). bs ++ get_or s (at + (n + m)) 0 ∷ []) (bytes_behind s at n m)
    ∙ append_assoc (bytes_at s at n) (bytes_at s (at + n) m) (get_or s (at + (n + m)) 0 ∷ [])
    ∙ ap (λ (k : ℕ). bytes_at s at n ++ (bytes_at s (at + n) m ++ get_or s k 0 ∷ [])) (sym (add_assoc at n m))
