use Rattle.std.proofs.Common.{◌≡◌, ◌++◌, take, string_bytes}
use Rattle.core_texts.specs.Text.{frames_text}
use Rattle.core_texts.proofs.frame.push_frames.Given as goal

abbrev pub invariant-loop-frame : goal.invariant-loop-frame
invariant-loop-frame l = string_bytes l.text ≡ string_bytes l.initial.text ++ frames_text (take l.frame-index l.frames)
