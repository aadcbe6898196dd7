-- What the writes of the code mean.
use Rattle.object_builder.specs.Objects.{Value, Write}
use Rattle.object_builder.specs.Objects.Value.{U64, U32, U16, U8, Bytes}
use Rattle.object_builder.specs.declared.object.Value as d
use Rattle.object_builder.specs.declared.object.Value.TheVariants as v
use Rattle.object_builder.specs.declared.object.Write as w

-- a value to write, in plain terms
abbrev pub value_of : d.Value → Value
value_of (v.U64 n) = U64 n
value_of (v.U32 n) = U32 n
value_of (v.U16 n) = U16 n
value_of (v.U8 n) = U8 n
value_of (v.Bytes bytes) = Bytes bytes.now

-- a write in plain terms
abbrev pub write_of : w.Write → Write
write_of w = record { at = w.at; value = value_of w.value }
