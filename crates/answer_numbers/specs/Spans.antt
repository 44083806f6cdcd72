-- The numbers of a part of the section: its offset and its length.
use Rattle.std.specs.Prelude.{ℕ, List, [], ◌∷◌}
use Rattle.layout.specs.declared.Part.{Part}

abbrev pub span : Part → List ℕ
span p = p.offset ∷ p.byte_length ∷ []
