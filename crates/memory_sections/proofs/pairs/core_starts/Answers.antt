use Rattle.std.proofs.Common.{ap, map, ◌∙◌}
use Rattle.elf64_core.specs.Notes.{noted}
use Rattle.paired_stacks.specs.Starts.{starts_of}
use Rattle.memory_sections.proofs.pairs.core_starts.Goals as goal

pub returns : goal.returns
returns c =
    let machine = c.machine.result in
    record {
      notes = map noted c.in_ok-notes.notes.items;
      noted = c.in_ok-notes.ensures.are;
      are = c.in_ok-starts.ensures ∙ ap (λ ns. starts_of machine (map noted ns)) c.deref.ensures.value
          ∙ ap (λ m. starts_of m (map noted c.in_ok-notes.notes.items)) c.machine.ensures;
    }
