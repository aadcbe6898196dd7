-- What a frame of Python's own native code is, by its function's name as a text.
use Rattle.std.specs.Prelude.{ℕ, List, Option, Some, None, encode_utf8_all}
use Rattle.native_pairs.specs.declared.kind.FunctionKind.{FunctionKind}
use Rattle.native_pairs.specs.Kinds.{function_kind as kind_of_name}

-- by the bytes of its name
abbrev pub function_kind : Option (List ℕ) → FunctionKind
function_kind None = kind_of_name None
function_kind (Some function) = kind_of_name (Some (encode_utf8_all function))
