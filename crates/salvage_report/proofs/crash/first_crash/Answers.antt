use Rattle.std.proofs.Common.{ap, map, ◌∙◌}
use Rattle.elf64_core.specs.Notes.{noted}
use Rattle.salvage_report.specs.Crashed.{crash_among}
use Rattle.salvage_report.proofs.crash.first_crash.Goals as goal

pub returns : goal.returns
returns c =
    let machine = c.machine.result in
    record {
      notes = map noted c.in_ok-notes.notes.items;
      are = c.in_ok-notes.ensures.are;
      says = c.crash_by.ensures ∙ ap (λ ns. crash_among machine (map noted ns)) c.deref.ensures.value
          ∙ ap (λ m. crash_among m (map noted c.in_ok-notes.notes.items)) c.machine.ensures;
    }
