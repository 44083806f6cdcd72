-- The strip's bytes, where bodies are known by their offsets.
use Rattle.std.specs.Prelude.{ℕ, List, ◌++◌}
use Rattle.strip.specs.Numbers.{little_endian}
use Rattle.blocks.specs.declared.block.Block.{Block}
use Rattle.writing.specs.Tracks.{strip_tracks}

unfoldable pub strip_bytes : List ℕ → Block → Block → List ℕ
strip_bytes s bones morphs =
    little_endian 2 bones.initials.count ++ little_endian 2 morphs.initials.count ++ strip_tracks s bones ++ strip_tracks s morphs
