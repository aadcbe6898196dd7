use Rattle.std.proofs.Common.{◌≡◌, ◌⊎◌, [], Bool, false, reverse, ap, sym, subst, ◌∙◌, map, Err, IfErr, refl}
use Rattle.std.specs.Prelude.{All, IsTrue, filter, filter_map, find, option_and_then}
use Rattle.std.proofs.lemmas.List.{append-nil}
use Rattle.std.proofs.lemmas.List.Elements.{All-map}
use Rattle.std.proofs.lemmas.Result.{err_from_is_err_and}
use Rattle.elf64_core.specs.Notes.{noted}
use Rattle.elf64_core.proofs.Notes.{AreNotes-once}
use Rattle.image_memory.specs.Notes.{IsWhole, TablesSay, is_of_kind, is_table, process_kind, process_of, segment_bytes}
use Rattle.image_memory.specs.Notes.{status_noted}
use Rattle.image_memory.specs.declared.dump_error.DumpError.TheVariants.{BadNote, OutOfMemory}
use Rattle.image_memory.proofs.Lists.{All-unmap, filter_map-map, last-map}
use Rattle.image_memory.proofs.Refusals.{bad_note_from, error_is, note_errors}
use Rattle.image_memory.proofs.contents.read_segment.Goals as goal

false_true : (b : Bool) → b ≡ false → IsTrue b → ⊥
false_true b is h = absurd (cc)

pub returns-in_err-notes-clause-bad : goal.returns-in_err-notes-clause-bad
returns-in_err-notes-clause-bad c = λ is notes entries are whole tables.
    let p = err_from_is_err_and c.from_residual.result c.from_residual.ensures.1 in
    let bad = bad_note_from c.in_err-notes.field-0.0 (sym p.2 ∙ error_is c.from_residual.result p.0 BadNote p.1 is) in
    (c.in_err-notes.ensures.bad (ap (λ x. Err x) bad)).1 notes are

pub returns-in_err-notes-clause-only : goal.returns-in_err-notes-clause-only
returns-in_err-notes-clause-only c =
    let p = err_from_is_err_and c.from_residual.result c.from_residual.ensures.1 in
    let errors = note_errors c.in_err-notes.field-0.0 c.in_err-notes.ensures.only (λ is. c.in_err-notes.ensures.outside.0 (ap (λ x. Err x) is) c.requires) in
    subst (λ r. IfErr r (λ error. (error ≡ BadNote) ⊎ (error ≡ OutOfMemory))) (sym p.1) (subst (λ d. (d ≡ BadNote) ⊎ (d ≡ OutOfMemory)) (sym p.2) errors)

pub returns-then-not-are_whole-clause-bad : goal.returns-then-not-are_whole-clause-bad
returns-then-not-are_whole-clause-bad c = λ _ notes entries are whole tables.
    let items = c.in_ok-notes.notes.items in
    let same = AreNotes-once (segment_bytes c.args.elf.now c.args.segment.now) notes (map noted items) are c.in_ok-notes.ensures.notes in
    let whole : All IsWhole (map noted items) = subst (All IsWhole) same whole in
    let each = subst (All (λ note. IsWhole (noted note))) (sym c.deref.ensures.value) (All-unmap IsWhole noted items whole) in
    false_true c.are_whole.result c.if-not-are_whole.true (c.are_whole.ensures.1 each)

pub returns-in_err-entries-clause-bad : goal.returns-in_err-entries-clause-bad
returns-in_err-entries-clause-bad c = λ is notes entries are whole tables.
    let items = c.in_ok-notes.notes.items in
    let p = err_from_is_err_and c.from_residual-in_err-entries.result c.from_residual-in_err-entries.ensures.1 in
    let same = AreNotes-once (segment_bytes c.args.elf.now c.args.segment.now) notes (map noted items) are c.in_ok-notes.ensures.notes in
    c.in_err-entries.ensures.bad (ap (λ x. Err x) (sym p.2 ∙ error_is c.from_residual-in_err-entries.result p.0 BadNote p.1 is)) entries
    (subst (λ ns. TablesSay (filter is_table ns) entries) same tables)

pub returns-clause-say : goal.returns-clause-say
returns-clause-say c =
    let items = c.in_ok-notes.notes.items in
    let each = subst (All (λ note. IsWhole (noted note))) c.deref.ensures.value (c.are_whole.ensures.0 c.if-not-are_whole.false) in
    record {
      notes = map noted items;
      together = (map noted items, [], c.in_ok-notes.ensures.notes, refl, sym (append-nil (map noted items)));
      whole = All-map IsWhole noted items each;
      tables = c.in_ok-entries.ensures.entries;
      statuses_are = c.in_ok-statuses.ensures ∙ ap (filter_map (λ note. status_noted (noted note))) c.deref-2.ensures.value
          ∙ sym (filter_map-map status_noted noted items);
      process_is = c.last_process-process.ensures
          ∙ ap (λ ns. option_and_then (λ note. process_of (noted note)) (find (λ note. is_of_kind process_kind (noted note)) (reverse ns))) c.deref-3.ensures.value
          ∙ last-map process_of (is_of_kind process_kind) noted items;
    }
