-- The kinds of track in document 01's terms.
use Rattle.clip.specs.Fields.{bone, morph}
use Rattle.clip.specs.Fields as Fields
use Rattle.blocks.specs.declared.kind.Kind.{Kind}

abbrev pub kind_of : Kind → Fields.Kind
kind_of Kind.Bone = bone
kind_of Kind.Morph = morph
