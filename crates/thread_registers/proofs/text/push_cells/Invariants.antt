use Rattle.std.proofs.Common.{◌≡◌, ◌<◌, ◌++◌, drop, map, string_bytes}
use Rattle.thread_registers.specs.Text.{cells_text}
use Rattle.thread_registers.specs.Threads.{named_of}
use Rattle.thread_registers.proofs.text.push_cells.Given as goal

abbrev pub invariant-loop-register : goal.invariant-loop-register
invariant-loop-register l = (l.column < 4)
    × (string_bytes l.text ++ cells_text l.column (map named_of (drop l.register-index l.registers))
    ≡ string_bytes l.initial.text ++ cells_text 0 (map named_of l.registers))
