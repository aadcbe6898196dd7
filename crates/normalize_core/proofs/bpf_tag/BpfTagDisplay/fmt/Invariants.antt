use Rattle.std.proofs.Common.{take}
use Rattle.std.specs.Fmt.{HasWritten, IsPlainFormatter}
use Rattle.normalize_core.specs.Tags.{tag_text}
use Rattle.normalize_core.proofs.bpf_tag.BpfTagDisplay.fmt.Given as goal

abbrev pub invariant-loop-byte : goal.invariant-loop-byte
invariant-loop-byte g l =
    IsPlainFormatter l.initial.f
    → HasWritten g.W.Write.write_str_gives l.initial.f (tag_text (take l.byte-index l.self.0)) l.f
