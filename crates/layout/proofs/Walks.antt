-- A reader walks given items if it ends where they end, and is refused as they are where one is not whole. A reader behind another walks
-- its items behind the other's (`walks-then`): so a record's fields, read one by one, are the items of its table. Assumes nothing.
use Prim.Native.Nat.{ℕ, zero, suc, ◌+◌, ◌*◌}
use mathlib.Core.Bool.{Bool, true, false, cond}
use mathlib.Core.List.{List, [], ◌∷◌, ◌++◌}
use mathlib.Core.Path.{◌≡◌, refl, sym, ap, subst, ◌∙◌}
use native.Mathlib.Omega.{arith}
use lib.Dec.{leb}
use lib.ListN.{length, replicate}
use Rattle.layout.specs.Refusals.{too_short}
use Rattle.layout.specs.Walk.{Walk, fine, refused, refused_at, Reader, after, ◌>>=◌, give, here, item, block, u8, bool, u32, times, items}
use Rattle.layout.specs.Records.{constraint_state, pair}

-- Where a walk ends, or its refusal; what was read is left out.
abbrev pub end : {A : Type 0} → Walk A → Walk (Unit {0})
end w = after w (λ a next. fine tt next)

pub record Walks {A : Type 0} (m : Reader A) (widths : List ℕ) : Type 0 where
  pub same : (s : List ℕ) (at : ℕ) → end (m s at) ≡ items widths s at

-- So it reads where the items are whole.
pub record Read {A : Type 0} (w : Walk A) (next : ℕ) : Type 0 where
  pub value : A
  pub is : w ≡ fine value next

pub walks-read : {A : Type 0} (m : Reader A) (widths : List ℕ) → Walks m widths → (s : List ℕ) (at next : ℕ) → items widths s at ≡ fine tt next → Read (m s at) next
walks-read {A} m widths walks s at next e = go (m s at) (walks.same s at ∙ e)
  where
    go : (w : Walk A) → end w ≡ fine tt next → Read w next
    go (fine a to) e = let same : to ≡ next = cc in record { value = a; is = ap (fine a) same }
    go (refused why) e = absurd (let z : ◌≡◌ {A = ℕ} 0 1 = cc in omega arith)

-- Items behind items.
items-behind : (ws vs s : List ℕ) (at : ℕ) → items (ws ++ vs) s at ≡ after (items ws s at) (λ u mid. items vs s mid)
unfolding items
items-behind [] vs s at = refl
items-behind (w ∷ ws) vs s at = go (block w s at) (λ mid. items-behind ws vs s mid)
  where
    go : (v : Walk (Unit {0})) → ((mid : ℕ) → items (ws ++ vs) s mid ≡ after (items ws s mid) (λ u to. items vs s to)) → after v (λ u mid. items (ws ++ vs) s mid) ≡ after (after v (λ u mid. items ws s mid)) (λ u mid. items vs s mid)
    go (fine u mid) more = more mid
    go (refused why) more = refl

pub walks-give : {A : Type 0} (a : A) → Walks (give a) []
unfolding items
walks-give a = record { same = λ s at. refl }

pub walks-here : Walks here []
unfolding items
walks-here = record { same = λ s at. refl }

pub walks-item : {A : Type 0} (width : ℕ) (value : List ℕ → ℕ → A) → Walks (item width value) (width ∷ [])
unfolding items item
walks-item {A} width value = record { same = λ s at. go s at (leb (at + width) (length s)) }
  where
    go : (s : List ℕ) (at : ℕ) (b : Bool) → end (cond b (fine (value s at) (at + width)) (refused_at too_short at)) ≡ after (cond b (fine (tt {0}) (at + width)) (refused_at too_short at)) (λ u next. fine tt next)
    go s at true = refl
    go s at false = refl

-- Items themselves.
walks-items : (widths : List ℕ) → Walks (items widths) widths
walks-items widths = record { same = λ s at. go (items widths s at) }
  where
    go : (w : Walk (Unit {0})) → end w ≡ w
    go (fine u next) = refl
    go (refused why) = refl

pub walks-then : {A B : Type 0} (m : Reader A) (f : A → Reader B) (ws vs : List ℕ) → Walks m ws → ((a : A) → Walks (f a) vs) → Walks (◌>>=◌ m f) (ws ++ vs)
walks-then {A} {B} m f ws vs first rest = record {
  same = λ s at.
      go s (m s at) ∙ ap (λ (w : Walk (Unit {0})). after w (λ u mid. items vs s mid)) (first.same s at) ∙ sym (items-behind ws vs s at);
}
  where
    go : (s : List ℕ) (w : Walk A) → end (after w (λ a mid. f a s mid)) ≡ after (end w) (λ u mid. items vs s mid)
    go s (fine a mid) = (rest a).same s mid
    go s (refused why) = refl

pub walks-bool : Walks bool (1 ∷ [])
walks-bool = walks-then u8 _ (1 ∷ []) [] (walks-item 1 _) (λ b. walks-give _)

pub walks-u32 : Walks u32 (4 ∷ [])
walks-u32 = walks-item 4 _

-- A bool a constraint; a pair an outside parent.
pub walks-bools : (n : ℕ) → Walks (times n (items constraint_state)) (replicate n 1)
unfolding times
walks-bools zero = walks-give tt
walks-bools (suc n) = walks-then (items constraint_state) _ (1 ∷ []) (replicate n 1) (walks-items constraint_state) (λ u. walks-bools n)

pub walks-pairs : (n : ℕ) → Walks (times n (items pair)) (replicate (2 * n) 4)
unfolding times
walks-pairs zero = walks-give tt
walks-pairs (suc n) =
    let more : 2 * suc n ≡ suc (suc (2 * n)) = omega arith in
    subst (λ (k : ℕ). Walks (times (suc n) (items pair)) (replicate k 4)) (sym more)
    (walks-then (items pair) _ (4 ∷ 4 ∷ []) (replicate (2 * n) 4) (walks-items pair) (λ u. walks-pairs n))
