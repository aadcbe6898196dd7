use Rattle.std.proofs.Common.{map}
use Rattle.elf64_core.specs.Notes.{noted}
use Rattle.process_memory.specs.Memory.{byte_at}
use Rattle.process_memory.proofs.Reading.{reading_here}
use Rattle.memory_sections.proofs.Noting.{with_notes}
use Rattle.memory_sections.proofs.native.native_over.Goals as goal

pub returns : goal.returns
returns g c =
    let right = rw c.deref.ensures.value at (reading_here c.read_native_stacks.ensures.right) in
    with_notes c.args.strict c.args.crashed c.args.core.now c.args.images.now
    (byte_at (g.P.ProcessMemory.seen c.args.process.now).pieces) c.args.pythons.now
    (map noted c.in_ok-all.all.items) c.in_ok-all.ensures.are c.read_native_stacks.result
    (rw c.in_ok-notes.ensures at right)
