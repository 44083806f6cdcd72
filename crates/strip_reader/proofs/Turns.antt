-- One turn of a pass over keys: a key passed over whose frame is kept leaves the pass over the others. Assumes nothing.
use Rattle.std.proofs.Common.{◌≡◌, ℕ, zero, suc, Bool, true, false, cond, List, refl, sym, ap, subst}
use Rattle.std.specs.Prelude.{Some, None}
use Rattle.std.proofs.lemmas.Option.{same_Some}
use Rattle.clip.specs.First.{member}
use Rattle.strip_reader.specs.{Key.{Form}, Skip.{skipped, frame_of, frames}}
use Rattle.strip_reader.specs.declared.repeated.Passed.{Passed}
use Rattle.strip_reader.specs.Repeated.{inserted, Kept, passed_over, new_frame, told, keep, pass, Ascending}
use Rattle.strip_reader.proofs.{Skips.{frames-more, frames-end}, Occurs.{ascending-take, ascending-inserted}, Passes.{not_passed}}

module _ (room least : ℕ) (form : Form) (left : List ℕ) (k : Kept) where
  pub pass-done : (n : ℕ) → n ≡ 0 → pass room least (frames form n left) k ≡ told k.left_out
  unfolding pass frames
  pass-done n e = rw e refl

  pub pass-end : (n : ℕ) → None ≡ frame_of (skipped form left) → pass room least (frames form n left) k ≡ told k.left_out
  unfolding pass frames
  pass-end zero e = refl
  pass-end (suc n) e = ap (λ (fs : List ℕ). pass room least fs k) (frames-end form n left e)

  pub pass-found : (n m frame : ℕ) (rest : List ℕ) → n ≡ suc m → Some (frame, rest) ≡ frame_of (skipped form left) → None ≡ keep room least frame k → pass room least (frames form n left) k ≡ Passed.Repeated
  unfolding pass
  pass-found n m frame rest e first found = rw (e, frames-more form m left frame rest first, ← found) refl

  pub pass-more : (n m frame : ℕ) (rest : List ℕ) (kept : Kept) → n ≡ suc m → Some (frame, rest) ≡ frame_of (skipped form left) → Some kept ≡ keep room least frame k → pass room least (frames form n left) k ≡ pass room least (frames form m rest) kept
  unfolding pass
  pass-more n m frame rest kept e first more = rw (e, frames-more form m left frame rest first, ← more) refl

module _ (room least frame : ℕ) (k kept : Kept) where
  pub keep-ascending : Ascending least k.frames → Some kept ≡ keep room least frame k → Ascending least kept.frames
  unfolding keep
  keep-ascending up e = by (passed_over least k.left_out frame) (member frame k.frames) refl refl e
    where
      by : (b m : Bool) → passed_over least k.left_out frame ≡ b → member frame k.frames ≡ m → Some kept ≡ cond b (Some k) (cond m None (Some (new_frame room frame k))) → Ascending least kept.frames
      by true m over is e = subst (λ (k' : Kept). Ascending least k'.frames) (sym (same_Some _ _ e)) up
      by false true over is e = cc
      by false false over is e =
          subst (λ (k' : Kept). Ascending least k'.frames) (sym (same_Some _ _ e))
          (ascending-take least room (inserted frame k.frames) (ascending-inserted least frame k.frames (not_passed least k.left_out frame over).0 is up))
