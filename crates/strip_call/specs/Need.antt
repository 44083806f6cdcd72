-- How many places of each work slice the records of both kinds take: "A + B" (FORMAT, The strip call).
use Rattle.std.specs.Prelude.{ℕ, ◌+◌}
use Rattle.strip_call.specs.declared.model_records.ModelRecords.{ModelRecords}

abbrev pub need_of : ModelRecords → ℕ
need_of r = r.bones.block.records.count + r.morphs.block.records.count
