-- Document 01, "Build fields" (FORMAT, What a build takes): what a record gives to a clip. A number is the 32 bits that are read.
use Rattle.std.specs.Prelude.{ℕ, List, ◌∷◌, ℤ, pos}
use Rattle.layout.specs.Walk.{Refusal, refusal}

-- "Bone: frame, next link, 16 interpolation bytes, pose bits. Morph: frame, next link, weight bits." The body is what comes after
-- the links.
pub record Initial (B : Type 0) : Type 0 where
  pub frame : ℕ
  pub next : ℕ
  pub body : B

-- "An additional record also has index and previous link."
pub record Additional (B : Type 0) : Type 0 where
  pub index : ℕ
  pub frame : ℕ
  pub previous : ℕ
  pub next : ℕ
  pub body : B

-- A bone's body: 16 interpolation bytes, and the bytes of its pose, 12 of the translation and 16 of the orientation. A morph's is the
-- 4 bytes of its weight.
pub record BoneBody : Type 0 where
  pub interpolation : List ℕ
  pub translation : List ℕ
  pub orientation : List ℕ

-- All records of one kind: the initial ones by track number and the additional ones by position, both from 0.
pub record Records (B : Type 0) : Type 0 where
  pub tracks : ℕ
  pub initial : ℕ → Initial B
  pub additional : ℕ
  pub at : ℕ → Additional B

-- "3 to 11 and 15 also say bone or morph" (FORMAT, Refusals): before the other values.
pub data Kind : Type 0 where
  bone : Kind
  morph : Kind

abbrev pub kind_value : Kind → ℤ
kind_value bone = pos 0
kind_value morph = pos 1

abbrev pub refusal_of : Kind → ℕ → List ℤ → Refusal
refusal_of kind number values = refusal number (kind_value kind ∷ values)
