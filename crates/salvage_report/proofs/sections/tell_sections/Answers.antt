use Rattle.std.proofs.Common.{◌∙◌, ap, map}
use Rattle.elf64_core.specs.Notes.{noted}
use Rattle.crash_signal.specs.Signals.{signal_told}
use Rattle.thread_registers.specs.Threads.{threads_told}
use Rattle.missed_reads.specs.Told.{told_of}
use Rattle.memory_sections.specs.Pythons.{python_threads}
use Rattle.salvage_report.specs.Sections.{if_asked, own_id}
use Rattle.salvage_report.proofs.sections.tell_sections.Goals as goal

pub returns : goal.returns
returns c =
    let asked = c.args.asked in
    let notes = map noted c.in_ok-all.all.items in
    let own = own_id c.args.notes.now.process in
    let pythons = python_threads c.args.interpreters.now in
    record {
      notes = notes;
      are = c.in_ok-all.ensures.are;
      signal = c.signal_section-signal.ensures
          ∙ ap (λ ns. if_asked asked.signal (signal_told c.own_id.result (map noted ns))) c.deref.ensures.value
          ∙ ap (λ pid. if_asked asked.signal (signal_told pid notes)) c.own_id.ensures;
      registers = c.in_ok-registers.ensures
          ∙ ap (λ ns. if_asked asked.registers (threads_told c.machine.result pythons (map noted ns)))
          c.deref-2.ensures.value
          ∙ ap (λ m. if_asked asked.registers (threads_told m pythons notes)) c.machine.ensures;
      refused = told_of c.args.misses.now;
      missing = c.in_ok-missing.ensures;
    }
