use Rattle.std.proofs.Common.{◌+◌, ◌∙◌, ◌++◌, ap, append-nil, drop, get_or, map, refl, sym}
use Rattle.std.specs.Prelude.{option_to_list}
use Rattle.std.proofs.lemmas.List.{at_drop_all}
use Rattle.elf64_core.specs.Notes.{noted}
use Rattle.thread_registers.specs.Threads.{thread_noted, thread_shown, threads_told}
use Rattle.thread_registers.proofs.Rest.{cons_as_list, next, no_note, value_more}
use Rattle.thread_registers.proofs.reading.read_threads.Goals as goal

pub loop-note-preserved : goal.loop-note-preserved
loop-note-preserved c =
    let notes = c.args.notes.now in
    let i = c.loop-note.note-index in
    let x = get_or notes i no_note in
    let told = thread_noted c.args.machine c.args.pythons.now (noted x) in
    let rest = threads_told c.args.machine c.args.pythons.now (map noted (drop (i + 1) notes)) in
    value_more thread_shown c.loop-note.threads.items _ (option_to_list told) rest _ _
    (ap (λ xs. threads_told c.args.machine c.args.pythons.now (map noted xs))
    (next notes i x no_note c.loop-note-test.true refl) ∙ cons_as_list told rest)
    c.loop-note.invariant c.in_ok-add_thread.ensures

pub returns : goal.returns
returns c =
    let shown = map thread_shown c.loop-note.threads.items in
    sym (append-nil shown)
    ∙ ap (λ ts. shown ++ ts) (sym (at_drop_all (λ xs. threads_told c.args.machine c.args.pythons.now (map noted xs))
    c.args.notes.now c.loop-note.note-index c.loop-note-test.false)) ∙ c.loop-note.invariant
