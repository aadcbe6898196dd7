use Rattle.std.proofs.Common.{◌≡◌, ◌++◌, take, string_bytes}
use Rattle.std.specs.List.{flat_map}
use Rattle.native_frames.specs.Escape.{escaped_character}
use Rattle.native_frames.proofs.escape.push_escaped.Given as goal

abbrev pub invariant-loop-c : goal.invariant-loop-c
invariant-loop-c l = string_bytes l.text ≡ string_bytes l.initial.text ++ flat_map (escaped_character l.is_name)
    (take l.c-index l.c-items)
