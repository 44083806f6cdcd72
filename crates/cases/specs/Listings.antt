-- Document 01, "Sections by hand": sections, and their listings.
use Rattle.std.specs.Prelude.{ℕ, List, [], ◌∷◌, ◌++◌, codes}
use Rattle.listing_lines.specs.Listing.{section_listing}
use Rattle.answer_cases.specs.Bytes.{zeros, small}
use Rattle.cases.specs.Sections.{one, bone, additional_bone, linked, two_bones, without_orientation}
use Rattle.cases.specs.Slices.{linked_morph}

abbrev pub listed : List ℕ → List ℕ
listed section = section_listing (record { section = section; start = 0; first = zeros 2; second = zeros 2; output = zeros 40 })

-- A record of frame 25 behind the bone; a loose one; two tracks; a morph's two keys; a refusal.
abbrev pub listings : List (List ℕ × List ℕ)
listings =
    (listed (bone 1 one (small 1 ++ additional_bone (small 1) (small 25) 0 0)), codes "model 1 0 492\nbone 0 0 0\nbone 0 25 0\nkeys 2 loose 0\n")
    ∷ (listed (linked 0 1 0 0), codes "model 1 0 492\nbone 0 0 0\nkeys 1 loose 1\n")
    ∷ (listed (two_bones 0), codes "model 2 0 520\nbone 0 0 0\nbone 1 0 0\nkeys 2 loose 0\n")
    ∷ (listed (linked_morph 1 0), codes "model 0 1 383\nmorph 0 0 0\nmorph 0 1 0\nkeys 2 loose 0\n")
    ∷ (listed without_orientation, codes "refused 13\n")
    ∷ []
