-- Document 01, "Model section" and "Records" (FORMAT, A model section and Records): one section of each kind, byte by byte, whose fields
-- are told apart by their numbers.
use Rattle.std.specs.Prelude.{ℕ, ◌+◌, List, [], ◌∷◌, ◌++◌, codes}
use Rattle.answer_cases.specs.Bytes.{zeros, small, smalls, minus_one, from, text}

-- "model number u8; name and English name ..; path, 256 bytes ..; one ignored byte": to 263.
abbrev pub opening : List ℕ
opening = 7 ∷ text (codes "ab") ++ text (codes "c") ++ codes "d/e" ++ zeros 253 ++ 9 ∷ []

-- Two bones, three morphs, of which the first is nameless, two constraints, one outside parent: to 301.
abbrev pub counts : List ℕ
counts =
    small 2 ++ text (codes "x") ++ text (codes "yz") ++ small 3 ++ text [] ++ text (codes "m") ++ text (codes "n") ++ small 2 ++ zeros 8
    ++ small 1 ++ zeros 4

-- Draw order to last frame, with one expansion: to 333.
abbrev pub display : List ℕ
display = 3 ∷ 1 ∷ minus_one ++ smalls (from 11 4) ++ 1 ∷ 0 ∷ small 21 ++ small 22

-- Records from their frame on, whose numbers go up by one from n, as do the bytes of the curves from 1. A bool is true unless 0.
abbrev pub bone : ℕ → List ℕ → List ℕ
bone n bools = smalls (from n 3) ++ from 1 16 ++ smalls (from (n + 3) 7) ++ bools

abbrev pub morph : ℕ → List ℕ
morph n = smalls (from n 4) ++ 0 ∷ []

-- The f32 whose bits are 0xffc00001, a NaN.
abbrev pub nan : List ℕ
nan = 1 ∷ 0 ∷ 192 ∷ 255 ∷ []

abbrev pub model : ℕ → List ℕ
model n = smalls (from n 3) ++ 1 ∷ 0 ∷ 1 ∷ smalls (from (n + 3) 2) ++ 0 ∷ []

-- Two initial bones at 333, two additional ones at 453; three initial morphs at 577, an additional one at 632; a model record at 653, an
-- additional one at 681: to 709.
abbrev pub records : List ℕ
records =
    bone 10 (2 ∷ 0 ∷ []) ++ bone 30 (0 ∷ 1 ∷ []) ++ small 2 ++ small 99 ++ bone 50 (2 ∷ 0 ∷ []) ++ small 98 ++ bone 70 (0 ∷ 1 ∷ [])
    ++ morph 10 ++ morph 20 ++ morph 30 ++ small 1 ++ small 97 ++ minus_one ++ smalls (from 41 2) ++ nan ++ 1 ∷ []
    ++ model 10 ++ small 1 ++ small 96 ++ model 20

-- Of two bones, three morphs (the second of weight -9 * 2^-149), two constraints and one outside parent: from 709, 771, 783 and 785 to 801.
abbrev pub states : List ℕ
states =
    smalls (from 1 7) ++ 1 ∷ 0 ∷ 0 ∷ smalls (from 11 7) ++ 0 ∷ 1 ∷ 1 ∷ small 5 ++ (9 ∷ 0 ∷ 0 ∷ 128 ∷ []) ++ small 6
    ++ 2 ∷ 0 ∷ minus_one ++ smalls (from 2 3)

-- It ends at 808.
abbrev pub model_section : List ℕ
model_section = opening ++ counts ++ display ++ records ++ states ++ 1 ∷ small 8 ++ 0 ∷ 5 ∷ []

-- A camera section of 201 bytes: a record, an additional one at 82 and 37 bytes of state.
abbrev pub camera : ℕ → ℕ → List ℕ
camera n perspective = smalls (from n 12) ++ from 1 24 ++ perspective ∷ small (n + 12) ++ 1 ∷ []

abbrev pub camera_section : List ℕ
camera_section = camera 10 0 ++ small 1 ++ small 99 ++ camera 30 1 ++ zeros 37

-- A light section of 106 bytes: a record, an additional one at 41 and 24 bytes of state.
abbrev pub light : ℕ → List ℕ
light n = smalls (from n 9) ++ 1 ∷ []

abbrev pub light_section : List ℕ
light_section = light 10 ++ small 1 ++ small 99 ++ light 30 ++ zeros 24
