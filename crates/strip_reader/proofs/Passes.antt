-- A pass tells the truth: of the frames that are not below the least and are below the first that found no room, what is kept and what is
-- still to come have as many together after each frame as before it; so a frame kept twice is repeated, and none is where none was.
-- Assumes nothing.
use Rattle.std.proofs.Common.{◌≡◌, ℕ, ◌+◌, ◌≤◌, ◌<◌, Bool, true, false, cond, List, [], ◌∷◌, length, take, drop, get_or, ltb, leb, refl, sym, arith, inl, inr, subst, length-take}
use Rattle.std.specs.Prelude.{Option, Some, None}
use Rattle.std.proofs.lemmas.{Bool.{ltb-true, ltb-false, leb-true, leb-false, cases_eq, cases_lt, or_cases, or_parts}, List.{take_all, drop_more, drop_all}, Option.{same_Some}}
use Rattle.clip.specs.First.{member}
use Rattle.strip_reader.specs.declared.repeated.Passed.{Passed}
use Rattle.strip_reader.specs.Repeated.{repeats, inserted, Kept, nothing, passed_over, new_frame, told, if_distinct, keep, pass, Ascending}
use Rattle.strip_reader.proofs.Occurs.{one_of, occurs, one-same, one-other, occurs-member, repeats-true, repeats-false, occurs-inserted, occurs-split, length-inserted, ascending-take, ascending-inserted, ascending-once, ascending-at, ascending-before, occurs-at}

-- Below the least that found no room.
abbrev Before : Option ℕ → ℕ → Type 0
Before None v = Unit {0}
Before (Some limit) v = v < limit

before_less : (o : Option ℕ) (v w : ℕ) → v < w → Before o w → Before o v
before_less None v w less in_o = tt
before_less (Some limit) v w less in_o = omega arith

pub not_passed : (least : ℕ) (o : Option ℕ) (frame : ℕ) → passed_over least o frame ≡ false → (least ≤ frame) × Before o frame
not_passed least None frame e = (ltb-false frame least e, tt)
not_passed least (Some limit) frame e = let parts = or_parts (ltb frame least) (leb limit frame) e in (ltb-false frame least parts.0, leb-false limit frame parts.1)

passed : (least : ℕ) (o : Option ℕ) (frame v : ℕ) → passed_over least o frame ≡ true → least ≤ v → Before o v → v ≡ frame → ⊥
passed least None frame v e low in_o same = omega (arith, ltb-true frame least e)
passed least (Some limit) frame v e low in_o same =
    elim (or_cases (ltb frame least) (leb limit frame) e) [ inl below ↦ omega (arith, ltb-true frame least below) | inr above ↦ omega (arith, leb-true limit frame above) ]

module _ (room least : ℕ) where
  record Good (k : Kept) : Type 0 where
    within : length k.frames ≤ room
    ascending : Ascending least k.frames
    inside : (v : ℕ) → 0 < occurs v k.frames → Before k.left_out v
    above : 0 < room → Before k.left_out least

  -- What a frame more does.
  record Stepped (frame : ℕ) (k kept : Kept) : Type 0 where
    good : Good kept
    fewer : (v : ℕ) → occurs v kept.frames ≤ one_of v frame + occurs v k.frames
    falls : (v : ℕ) → Before kept.left_out v → Before k.left_out v
    same : (v : ℕ) → least ≤ v → Before kept.left_out v → one_of v frame + occurs v k.frames ≡ occurs v kept.frames

  module _ (frame : ℕ) (k : Kept) (good : Good k) (low : least ≤ frame) (before : Before k.left_out frame) (new : member frame k.frames ≡ false) where
    abbrev more : List ℕ
    more = inserted frame k.frames

    ascending_more : Ascending least more
    ascending_more = ascending-inserted least frame k.frames low new good.ascending

    before_more : (v : ℕ) → 0 < occurs v more → Before k.left_out v
    before_more v some =
        elim (cases_eq v frame) [
          | inl e ↦ subst (λ (w : ℕ). Before k.left_out w) (sym e) before
          | inr e ↦ good.inside v (omega (arith, occurs-inserted v frame k.frames, one-other v frame e))
        ]

    with_room : length more ≤ room → Stepped frame k (record { frames = take room more; left_out = k.left_out })
    with_room fits =
        rw (take_all room more fits)
        record {
          good = record { within = fits; ascending = ascending_more; inside = before_more; above = good.above };
          fewer = λ v. omega (arith, occurs-inserted v frame k.frames);
          falls = λ v b. b;
          same = λ v l b. sym (occurs-inserted v frame k.frames);
        }

    -- What found no room is one frame.
    last_out : (v : ℕ) → v < get_or more room 0 → room < length more → occurs v (drop room more) ≡ 0
    last_out v less full =
        let short : length more ≤ room + 1 = omega (arith, length-inserted frame k.frames, good.within) in
        rw (drop_more more room 0 full, drop_all (room + 1) more short) (omega (arith, one-other v (get_or more room 0) (λ e. omega arith)))

    without : room < length more → Stepped frame k (record { frames = take room more; left_out = Some (get_or more room 0) })
    without full =
        record {
          good = record {
            within = rw length-take (omega arith);
            ascending = ascending-take least room more ascending_more;
            inside = λ v some. ascending-before v least room more ascending_more full some;
            above = λ some. omega (arith, ascending-at least room more ascending_more full);
          };
          fewer = λ v. omega (arith, occurs-inserted v frame k.frames, occurs-split v room more);
          falls = λ v less. before_less k.left_out v (get_or more room 0) less (before_more (get_or more room 0) (occurs-at room more full));
          same = λ v l less. omega (arith, occurs-inserted v frame k.frames, occurs-split v room more, last_out v less full);
        }

    new-stepped : Stepped frame k (new_frame room frame k)
    new-stepped = by (leb (length more) room) refl
      where
        by : (b : Bool) → leb (length more) room ≡ b → Stepped frame k (record { frames = take room more; left_out = cond b k.left_out (Some (get_or more room 0)) })
        by true e = with_room (leb-true (length more) room e)
        by false e = without (leb-false (length more) room e)

  kept-was : (frame : ℕ) (k : Kept) → keep room least frame k ≡ None → 0 < occurs frame k.frames
  unfolding keep
  kept-was frame k e = by (passed_over least k.left_out frame) (member frame k.frames) refl e
    where
      by : (b m : Bool) → member frame k.frames ≡ m → cond b (Some k) (cond m None (Some (new_frame room frame k))) ≡ None → 0 < occurs frame k.frames
      by true m is e = cc
      by false true is e = occurs-member frame k.frames is
      by false false is e = cc

  kept-stepped : (frame : ℕ) (k kept : Kept) → Good k → keep room least frame k ≡ Some kept → Stepped frame k kept
  unfolding keep
  kept-stepped frame k kept good e = by (passed_over least k.left_out frame) (member frame k.frames) refl refl e
    where
      by : (b m : Bool) → passed_over least k.left_out frame ≡ b → member frame k.frames ≡ m → cond b (Some k) (cond m None (Some (new_frame room frame k))) ≡ Some kept → Stepped frame k kept
      by true m over is e =
          subst (λ (k' : Kept). Stepped frame k k') (same_Some _ _ e)
          (record { good = good; fewer = λ v. omega arith; falls = λ v b. b; same = λ v l b. omega (arith, one-other v frame (passed least k.left_out frame v over l b)) })
      by false true over is e = cc
      by false false over is e =
          let facts = not_passed least k.left_out frame over in subst (λ (k' : Kept). Stepped frame k k') (same_Some _ _ e) (new-stepped frame k good facts.0 facts.1 is)

  good-nothing : Good nothing
  good-nothing = record { within = omega arith; ascending = tt; inside = λ v some. absurd (omega arith); above = λ some. tt }

  abbrev Told : Passed → ℕ → Type 0
  Told Passed.Repeated v = ⊥
  Told Passed.Distinct v = Unit {0}
  Told (Passed.DistinctBelow limit) v = v < limit

  told_before : (o : Option ℕ) (v : ℕ) → Told (told o) v → Before o v
  told_before None v b = tt
  told_before (Some limit) v b = b

  twice : (frames : List ℕ) (k : Kept) → Good k → pass room least frames k ≡ Passed.Repeated → (v : ℕ) × (1 < occurs v k.frames + occurs v frames)
  unfolding pass
  twice [] k good e = by k.left_out e
    where
      by : (o : Option ℕ) → told o ≡ Passed.Repeated → (v : ℕ) × (1 < occurs v k.frames + 0)
      by None e = cc
      by (Some limit) e = cc
  twice (frame ∷ frames) k good e = by (keep room least frame k) refl e (twice frames)
    where
      by : (o : Option Kept) → keep room least frame k ≡ o → if_distinct o (λ kept. pass room least frames kept) ≡ Passed.Repeated → ((kept : Kept) → Good kept → pass room least frames kept ≡ Passed.Repeated → (v : ℕ) × (1 < occurs v kept.frames + occurs v frames)) → (v : ℕ) × (1 < occurs v k.frames + (one_of v frame + occurs v frames))
      by None is e more = (frame, omega (arith, kept-was frame k is, one-same frame frame refl))
      by (Some kept) is e more =
          let s = kept-stepped frame k kept good is in let found = more kept s.good e in (found.0, omega (arith, found.1, s.fewer found.0))

  once : (frames : List ℕ) (k : Kept) → Good k → (v : ℕ) → least ≤ v → Told (pass room least frames k) v → Before k.left_out v × (occurs v k.frames + occurs v frames ≤ 1)
  unfolding pass
  once [] k good v low told_v = (told_before k.left_out v told_v, omega (arith, ascending-once v least k.frames good.ascending))
  once (frame ∷ frames) k good v low told_v = by (keep room least frame k) refl told_v (λ kept good told_v. once frames kept good v low told_v)
    where
      by : (o : Option Kept) → keep room least frame k ≡ o → Told (if_distinct o (λ kept. pass room least frames kept)) v → ((kept : Kept) → Good kept → Told (pass room least frames kept) v → Before kept.left_out v × (occurs v kept.frames + occurs v frames ≤ 1)) → Before k.left_out v × (occurs v k.frames + (one_of v frame + occurs v frames) ≤ 1)
      by None is told_v more = absurd told_v
      by (Some kept) is told_v more =
          let s = kept-stepped frame k kept good is in let next = more kept s.good told_v in (s.falls v next.0, omega (arith, next.1, s.same v low next.0))

  above_least : 0 < room → (limit : ℕ) (frames : List ℕ) (k : Kept) → Good k → pass room least frames k ≡ Passed.DistinctBelow limit → least < limit
  unfolding pass
  above_least some limit [] k good e = by k.left_out e (good.above some)
    where
      by : (o : Option ℕ) → told o ≡ Passed.DistinctBelow limit → Before o least → least < limit
      by None e before = cc
      by (Some l) e before = let same : l ≡ limit = cc in omega arith
  above_least some limit (frame ∷ frames) k good e = by (keep room least frame k) refl e (above_least some limit frames)
    where
      by : (o : Option Kept) → keep room least frame k ≡ o → if_distinct o (λ kept. pass room least frames kept) ≡ Passed.DistinctBelow limit → ((kept : Kept) → Good kept → pass room least frames kept ≡ Passed.DistinctBelow limit → least < limit) → least < limit
      by None is e more = cc
      by (Some kept) is e more = more kept (kept-stepped frame k kept good is).good e

-- No frame below the least is repeated.
pub record DistinctBelow (least : ℕ) (frames : List ℕ) : Type 0 where
  pub once : (v : ℕ) → v < least → occurs v frames ≤ 1

pub distinct-below-0 : (frames : List ℕ) → DistinctBelow 0 frames
distinct-below-0 frames = record { once = λ v less. absurd (omega arith) }

module _ (room least : ℕ) (frames : List ℕ) where
  pub told-repeated : Passed.Repeated ≡ pass room least frames nothing → repeats frames ≡ true
  told-repeated e = let found = twice room least frames nothing (good-nothing room least) (sym e) in repeats-true found.0 frames (omega (arith, found.1))

  either : DistinctBelow least frames → (v : ℕ) → Told room least (pass room least frames nothing) v → occurs v frames ≤ 1
  either before v told_v =
      elim (cases_lt v least) [
        | inl less ↦ before.once v less
        | inr high ↦ omega (arith, (once room least frames nothing (good-nothing room least) v high told_v).1)
      ]

  pub told-distinct : DistinctBelow least frames → Passed.Distinct ≡ pass room least frames nothing → repeats frames ≡ false
  told-distinct before e = repeats-false frames (λ v. either before v (subst (λ (p : Passed). Told room least p v) e tt))

  pub told-distinct-below : (limit : ℕ) → DistinctBelow least frames → Passed.DistinctBelow limit ≡ pass room least frames nothing → DistinctBelow limit frames
  told-distinct-below limit before e = record { once = λ v less. either before v (subst (λ (p : Passed). Told room least p v) e less) }

  pub told-above : (limit : ℕ) → 0 < room → Passed.DistinctBelow limit ≡ pass room least frames nothing → least < limit
  told-above limit some e = above_least room least some limit frames nothing (good-nothing room least) (sym e)
