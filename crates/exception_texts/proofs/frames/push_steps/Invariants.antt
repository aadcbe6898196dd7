use Rattle.std.proofs.Common.{◌≡◌, ◌++◌, string_bytes}
use Rattle.exception_texts.specs.Frames.{steps_text}
use Rattle.exception_texts.proofs.frames.push_steps.Given as goal

abbrev pub invariant-loop : goal.invariant-loop
invariant-loop l = string_bytes l.text ≡ string_bytes l.initial.text ++ steps_text l.counter
