-- Records of files: fields that follow each other, the lowest byte of each number first.
use Rattle.std.specs.Prelude.{ℕ, ◌-◌, List, ◌++◌, length}
use Rattle.std.specs.List.{flat_map}
use Rattle.std.proofs.Math.ListN.{replicate}
use Rattle.object_builder.specs.Objects.{Value, bytes_of}

-- the bytes of some fields
unfoldable pub record_of : List Value → List ℕ
record_of fields = flat_map bytes_of fields

-- filled up with zeros to so many bytes
unfoldable pub filled : ℕ → List ℕ → List ℕ
filled n bytes = bytes ++ replicate (n - length bytes) 0
