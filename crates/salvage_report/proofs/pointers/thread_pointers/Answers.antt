use Rattle.std.proofs.Common.{ap, map, ◌∙◌}
use Rattle.elf64_core.specs.Notes.{noted}
use Rattle.salvage_report.specs.Pointers.{pointers_of}
use Rattle.salvage_report.proofs.pointers.thread_pointers.Goals as goal

pub returns : goal.returns
returns c =
    let machine = c.machine.result in
    record {
      notes = map noted c.in_ok-notes.notes.items;
      are = c.in_ok-notes.ensures.are;
      says = c.in_ok-pointers.ensures ∙ ap (λ ns. pointers_of machine (map noted ns)) c.deref.ensures.value
          ∙ ap (λ m. pointers_of m (map noted c.in_ok-notes.notes.items)) c.machine.ensures;
    }
