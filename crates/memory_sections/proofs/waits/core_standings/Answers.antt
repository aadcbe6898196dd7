use Rattle.std.proofs.Common.{ap, map, ◌∙◌}
use Rattle.elf64_core.specs.Notes.{noted}
use Rattle.memory_sections.specs.Waits.{standings_of}
use Rattle.memory_sections.proofs.waits.core_standings.Goals as goal

pub returns : goal.returns
returns c =
    let machine = c.machine.result in
    record {
      notes = map noted c.in_ok-notes.notes.items;
      noted = c.in_ok-notes.ensures.are;
      are = c.in_ok-standings.ensures ∙ ap (λ ns. standings_of machine (map noted ns)) c.deref.ensures.value
          ∙ ap (λ m. standings_of m (map noted c.in_ok-notes.notes.items)) c.machine.ensures;
    }
