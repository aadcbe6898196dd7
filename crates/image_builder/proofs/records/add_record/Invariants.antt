use Rattle.std.proofs.Common.{◌≡◌, ◌++◌, map, take}
use Rattle.std.specs.List.{flat_map}
use Rattle.object_builder.specs.Objects.{bytes_of}
use Rattle.object_builder.specs.Writes.{value_of}
use Rattle.image_builder.proofs.records.add_record.Given as goal

-- the fields so far
abbrev pub invariant-loop-field : goal.invariant-loop-field
invariant-loop-field l = l.out.items ≡ l.fn.out.items ++ flat_map bytes_of (take l.field-index (map value_of l.fields))
