-- Document 02, T-01 (FORMAT, Asset references): a lent list of references.
use Rattle.std.specs.Prelude.{ℕ, zero, suc, ◌+◌, ◌*◌, cond, List, [], ◌∷◌, length, drop, get_or, Option, Some, None, leb}
use Rattle.std.specs.{List.{between}, Option.{option_map}}

pub record Reference : Type 0 where
  pub kind : ℕ
  pub text : List ℕ

abbrev pub reference : ℕ → List ℕ → Reference
reference kind text = record { kind = kind; text = text }

-- "Each entry is a kind byte .., a u16 length and that many bytes": the first one and what stands behind it, if it is whole.
unfoldable pub first_reference : List ℕ → Option (Reference × List ℕ)
first_reference list =
    let end : ℕ = 3 + (get_or list 1 0 + 256 * get_or list 2 0) in
    cond (leb end (length list)) (Some (reference (get_or list 0 0) (between 3 end list), drop end list)) None

-- An entry, and what is read behind it.
abbrev pub followed : Option (Reference × List ℕ) → (List ℕ → Option (List Reference)) → Option (List Reference)
followed None read = None
followed (Some (first, others)) read = option_map (λ rs. first ∷ rs) (read others)

-- The entries, one behind the other, unless the list "ends inside an entry"; n is a bound on their number.
unfoldable pub references_within : ℕ → List ℕ → Option (List Reference)
references_within n [] = Some []
references_within zero (b ∷ bytes) = None
references_within (suc n) (b ∷ bytes) = followed (first_reference (b ∷ bytes)) (references_within n)

-- No list has more entries than bytes.
abbrev pub references : List ℕ → Option (List Reference)
references list = references_within (length list) list
