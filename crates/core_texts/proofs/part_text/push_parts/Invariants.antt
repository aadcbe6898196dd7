use Rattle.std.proofs.Common.{◌≡◌, ◌++◌, take}
use Rattle.core_texts.specs.Parts.{said}
use Rattle.core_texts.proofs.part_text.push_parts.Given as goal

abbrev pub invariant-loop-part : goal.invariant-loop-part
invariant-loop-part l = l.text.items ≡ l.initial.text.items ++ said (take l.part-index l.parts)
