use Rattle.std.proofs.Common.{◌+◌, ◌∙◌, ◌++◌, ap, append-nil, drop, get_or, map, refl, sym}
use Rattle.std.specs.Prelude.{option_to_list}
use Rattle.std.proofs.lemmas.List.{at_drop_all}
use Rattle.elf64_core.specs.Notes.{noted}
use Rattle.thread_registers.proofs.Rest.{cons_as_list, next, no_note}
use Rattle.memory_sections.specs.Waits.{standing_noted, standings_of}
use Rattle.paired_stacks.proofs.Following.{part_more}
use Rattle.memory_sections.proofs.waits.standings_of.Goals as goal

pub loop-note-preserved : goal.loop-note-preserved
loop-note-preserved c =
    let notes = c.args.notes.now in
    let i = c.loop-note.note-index in
    let x = get_or notes i no_note in
    let told = standing_noted c.args.machine (noted x) in
    let rest = standings_of c.args.machine (map noted (drop (i + 1) notes)) in
    part_more c.loop-note.standings.items _ (option_to_list told) rest _ _
    (ap (λ xs. standings_of c.args.machine (map noted xs)) (next notes i x no_note c.loop-note-test.true refl)
    ∙ cons_as_list told rest)
    c.loop-note.invariant c.in_ok-add_standing.ensures

pub returns : goal.returns
returns c =
    let told = c.loop-note.standings.items in
    sym (append-nil told)
    ∙ ap (λ ts. told ++ ts) (sym (at_drop_all (λ xs. standings_of c.args.machine (map noted xs)) c.args.notes.now
    c.loop-note.note-index c.loop-note-test.false)) ∙ c.loop-note.invariant
