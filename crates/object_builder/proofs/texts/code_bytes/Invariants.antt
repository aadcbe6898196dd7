use Rattle.std.proofs.Common.{◌≡◌, take}
use Rattle.std.specs.List.{flat_map}
use Rattle.object_builder.specs.Texts.{code_bytes}
use Rattle.object_builder.proofs.texts.code_bytes.Given as goal

-- the characters so far
abbrev pub invariant-loop-c : goal.invariant-loop-c
invariant-loop-c l = l.bytes.items ≡ flat_map (code_bytes l.width) (take l.c-index l.c-items)
