-- Numbers read one after another: the first i stand in `values`, and these with the others, read from `next` on, are what is read from the
-- first one on (`Passed`). Assumes nothing.
use Rattle.std.proofs.Common.{◌≡◌, ℕ, suc, ◌+◌, ◌-◌, ◌<◌, ◌≤◌, List, [], ◌∷◌, ◌++◌, length, take, refl, ◌∙◌, arith, append_assoc, append-nil, take_all}
use Rattle.std.proofs.Math.ListN.{set, length-set}
use Rattle.std.proofs.lemmas.List.{take_more_set}
use Rattle.layout.specs.Walk.{Walk, Refusal, fine, refused, after, u32}
use Rattle.binary.specs.Groups.{u32s}

-- The first i of n numbers stand in `values`, and the others are read from `next` on.
pub record Passed (n : ℕ) (s : List ℕ) (at i : ℕ) (values : List ℕ) (next : ℕ) : Type 0 where
  pub len : length values ≡ n
  pub is : u32s n s at ≡ after (u32s (n - i) s next) (λ others end. fine (take i values ++ others) end)

after-push : (w : Walk (List ℕ)) (front : List ℕ) (a : ℕ) → after (after w (λ others end. fine (a ∷ others) end)) (λ others end. fine (front ++ others) end) ≡ after w (λ others end. fine ((front ++ a ∷ []) ++ others) end)
after-push (fine others end) front a = simp append_assoc
after-push (refused why) front a = refl

module _ (n : ℕ) (s : List ℕ) (at : ℕ) where
  module _ (i : ℕ) (values : List ℕ) (next : ℕ) (passed : Passed n s at i values next) where
    turn : (rest : ℕ) → n - i ≡ suc rest → u32s (n - i) s next ≡ after (u32 s next) (λ a behind. after (u32s rest s behind) (λ others end. fine (a ∷ others) end))
    unfolding u32s
    turn rest e = rw e

    pub passed-more : (a behind : ℕ) → i < n → fine a behind ≡ u32 s next → Passed n s at (i + 1) (set values i a) behind
    passed-more a behind more e =
        let moved = turn (n - (i + 1)) (omega arith) in
        record {
          len = length-set values i a ∙ passed.len;
          is = passed.is ∙ rw (moved, ← e, take_more_set values i a (omega (arith, passed.len))) (after-push (u32s (n - (i + 1)) s behind) (take i values) a);
        }

    pub passed-stops : (why : Refusal) → i < n → refused why ≡ u32 s next → u32s n s at ≡ refused why
    passed-stops why more e = passed.is ∙ rw (turn (n - (i + 1)) (omega arith), ← e)

    none-left : (left : ℕ) → left ≡ 0 → u32s left s next ≡ fine [] next
    unfolding u32s
    none-left left e = rw e

    pub passed-all : n ≤ i → u32s n s at ≡ fine values next
    passed-all none = passed.is ∙ rw (none-left (n - i) (omega arith), take_all i values (omega (arith, passed.len)), append-nil values)

pub ruleset read_u32s_le = (passed-stops, passed-all)
