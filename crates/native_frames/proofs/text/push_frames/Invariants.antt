use Rattle.std.proofs.Common.{◌≡◌, ◌++◌, drop, string_bytes}
use Rattle.native_frames.specs.Text.{frames_text}
use Rattle.native_frames.proofs.text.push_frames.Given as goal

abbrev pub invariant-loop-frame : goal.invariant-loop-frame
invariant-loop-frame l = string_bytes l.text ++ frames_text l.files l.is_guess (drop l.frame-index l.frames)
    ≡ string_bytes l.initial.text ++ frames_text l.files l.is_guess l.frames
