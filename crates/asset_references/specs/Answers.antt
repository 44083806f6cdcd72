-- What the code answers, in the terms of documents 01 and 02.
use Rattle.std.specs.Prelude.{ℕ, List, [], ◌∷◌, Option, Some, None, Result}
use Rattle.std.specs.{Borrow.{Bor}, Option.{option_map}}
use Rattle.layout.specs.Refusals.{too_long, list_cut_off, not_ascii}
use Rattle.layout.specs.Walk.{Refusal, refusal, Answer}
use Rattle.binary.specs.Answers.{answer_by}
use Rattle.asset_references.specs.{References.{Reference, reference}, Normalize.{collapsed}}
use Rattle.asset_references.specs.declared.refusal.AssetRefusal.{AssetRefusal}

abbrev pub asset_refusal : AssetRefusal → Refusal
asset_refusal AssetRefusal.TooLong = refusal too_long []
asset_refusal AssetRefusal.ListCutOff = refusal list_cut_off []
asset_refusal AssetRefusal.NotAscii = refusal not_ascii []

abbrev pub index_read : Result (Option ℕ) AssetRefusal → Answer (Option ℕ)
index_read answer = answer_by asset_refusal answer

-- The first reference, and the list behind it.
abbrev pub reference_read : Option (ℕ × Bor (List ℕ) × Bor (List ℕ)) → Option (Reference × List ℕ)
reference_read None = None
reference_read (Some p) = Some (reference p.0 p.1.now, p.2.now)

-- A text as its first byte and the path behind it, whose slashes are still to be collapsed.
abbrev pub text_read : Option (ℕ × Bor (List ℕ)) → List ℕ
text_read None = []
text_read (Some p) = p.0 ∷ collapsed p.1.now

abbrev pub rest_read : Option (Bor (List ℕ)) → Option (List ℕ)
rest_read rest = option_map (λ path. collapsed path.now) rest
