use Rattle.std.proofs.Common.{◌≡◌, true, take, map, encode_utf8_all, string_bytes}
use Rattle.std.specs.Int.{w32, from_le_bytes}
use Rattle.std.specs.Str.{all_scalars}
use Rattle.py_builtins.proofs.coding.utf32_text.Given as goal

abbrev pub invariant-loop-code : goal.invariant-loop-code
invariant-loop-code l = record {
  spelled : string_bytes l.text ≡ encode_utf8_all (map (from_le_bytes w32) (take l.code-index l.codes));
  scalars : all_scalars (map (from_le_bytes w32) (take l.code-index l.codes)) ≡ true;
}
