use Rattle.std.proofs.Common.{◌≡◌, ◌++◌, ◌∷◌, [], filter, map, length, drop, ap, subst, sym, ◌∙◌, rules, eq-eqb, IfErr}
use Rattle.std.proofs.Common.{◌⊎◌, ◌+◌, Err}
use Rattle.std.proofs.lemmas.Result.{err_from_is_err_and}
use Rattle.std.proofs.lemmas.Iterator.Consumers.{YieldsList-from_first, YieldsList-turn}
use Rattle.std.proofs.lemmas.List.{map-append}
use Rattle.elf64_core.specs.Header.{FitsFile, segments_of}
use Rattle.elf64_core.specs.Notes.{noted}
use Rattle.elf64_core.specs.Rest.{segments_left}
use Rattle.image_memory.specs.Notes.{NotesOf, is_note}
use Rattle.image_memory.specs.declared.dump_error.DumpError.TheVariants.{BadNote, OutOfMemory}
use Rattle.image_memory.proofs.Noted.{NotesOf-more, NotesOf-none}
use Rattle.image_memory.proofs.Refusals.{bad_note_from, error_is, note_errors}
use Rattle.image_memory.proofs.Turns.{filter_at, turn_splits}
use Rattle.image_memory.proofs.notes.core_notes.Goals as goal

pub returns-in_err-notes-clause-bad : goal.returns-in_err-notes-clause-bad
returns-in_err-notes-clause-bad c = λ is notes h.
    let bytes = c.args.elf.now in
    let segment = c.in-Some.segment in
    let xs = c.loop-segment.yielded in
    let p = err_from_is_err_and c.from_residual.result c.from_residual.ensures.1 in
    let bad = bad_note_from c.in_err-notes.field-0.0 (sym p.2 ∙ error_is c.from_residual.result p.0 BadNote p.1 is) in
    let none = (c.in_err-notes.ensures.bad (ap (λ x. Err x) bad)).1 in
    let e = YieldsList-from_first (λ y. y) segments_left {s = c.into_iter-segment-iterator.result} (segments_of bytes) (search rules) in
    let all = turn_splits e xs c.loop-segment.segment-iterator c.loop-segment.yielded_by c.next.result c.next.new.self segment c.in-Some.is c.next.ensures.steps in
    let rest = drop (length xs + 1) (segments_of bytes) in
    let those = ap (filter is_note) all ∙ filter_at is_note xs rest segment (eq-eqb _ _ c.if-segment-eq-NOTE.true) in
    NotesOf-none bytes (filter is_note xs) (filter is_note rest) segment notes none (subst (λ ss. NotesOf bytes ss notes) those h)

pub returns-in_err-notes-clause-only : goal.returns-in_err-notes-clause-only
returns-in_err-notes-clause-only c =
    let bytes = c.args.elf.now in
    let segment = c.in-Some.segment in
    let p = err_from_is_err_and c.from_residual.result c.from_residual.ensures.1 in
    let e = YieldsList-from_first (λ y. y) segments_left {s = c.into_iter-segment-iterator.result} (segments_of bytes) (search rules) in
    let turn = YieldsList-turn e c.loop-segment.yielded c.loop-segment.segment-iterator c.loop-segment.yielded_by c.next.result c.next.new.self segment c.in-Some.is c.next.ensures.steps in
    let fits : FitsFile bytes segment = subst (FitsFile bytes) (sym turn.1) (c.requires.readable.segments (length c.loop-segment.yielded) segment turn.0) in
    let inside = fits.noted c.if-segment-eq-NOTE.true in
    let errors = note_errors c.in_err-notes.field-0.0 c.in_err-notes.ensures.only (λ is. c.in_err-notes.ensures.outside.0 (ap (λ x. Err x) is) inside) in
    subst (λ r. IfErr r (λ error. (error ≡ BadNote) ⊎ (error ≡ OutOfMemory))) (sym p.1) (subst (λ d. (d ≡ BadNote) ⊎ (d ≡ OutOfMemory)) (sym p.2) errors)

pub loop-segment-preserved-then-segment-eq-NOTE : goal.loop-segment-preserved-then-segment-eq-NOTE
loop-segment-preserved-then-segment-eq-NOTE c =
    let bytes = c.args.elf.now in
    let segment = c.in-Some.segment in
    let xs = c.loop-segment.yielded in
    let all = c.loop-segment.all.items in
    let own = c.in_ok-notes.notes.items in
    let is_one = eq-eqb _ _ c.if-segment-eq-NOTE.true in
    let notes : map noted c.extend_from_slice.new.self.items ≡ map noted all ++ map noted own = ap (map noted) (c.in_ok-extend_from_slice.ensures.items ∙ ap (λ ns. all ++ ns) c.deref.ensures.value) ∙ map-append noted all own in
    let those : filter is_note (xs ++ segment ∷ []) ≡ filter is_note xs ++ segment ∷ [] = filter_at is_note xs [] segment is_one in
    subst (λ ss. NotesOf bytes ss (map noted c.extend_from_slice.new.self.items)) (sym those)
    (subst (NotesOf bytes (filter is_note xs ++ segment ∷ [])) (sym notes)
    (NotesOf-more bytes (filter is_note xs) (map noted all) segment (map noted own) c.loop-segment.invariant c.in_ok-notes.ensures.notes))
