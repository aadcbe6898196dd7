use Rattle.std.proofs.Common.{◌≡◌, ◌+◌, ◌++◌, ◌∷◌, [], filter, map, length, drop, ap, subst, sym, ◌∙◌, rules, eq-eqb}
use Rattle.std.proofs.Common.{Err}
use Rattle.std.proofs.lemmas.Iterator.Adapters.{YieldsList-from_vec}
use Rattle.std.proofs.lemmas.List.{map-append}
use Rattle.std.proofs.lemmas.Result.{err_from_is_err_and}
use Rattle.elf64_core.specs.Notes.{noted}
use Rattle.image_memory.specs.FileTables.{file_entry_of}
use Rattle.image_memory.specs.Notes.{TablesSay, is_table}
use Rattle.image_memory.specs.declared.dump_error.DumpError.TheVariants.{BadNote}
use Rattle.image_memory.proofs.Refusals.{error_is}
use Rattle.image_memory.proofs.Tables.{TablesSay-more, TablesSay-none}
use Rattle.image_memory.proofs.Turns.{filter_at, turn_splits}
use Rattle.image_memory.proofs.notes.file_entries.Goals as goal

pub returns-in_err-own-clause-bad : goal.returns-in_err-own-clause-bad
returns-in_err-own-clause-bad c = λ is entries h.
    let note = c.in-Some.note in
    let xs = c.loop-note.yielded in
    let items = c.args.notes.items in
    let p = err_from_is_err_and c.from_residual.result c.from_residual.ensures.1 in
    let none = c.in_err-own.ensures.bad (ap (λ x. Err x) (sym p.2 ∙ error_is c.from_residual.result p.0 BadNote p.1 is)) in
    let e = YieldsList-from_vec {s = c.into_iter-note-iterator.result} items (search rules) (search rules) in
    let all = turn_splits e xs c.loop-note.note-iterator c.loop-note.yielded_by c.next.result c.next.new.self note c.in-Some.is c.next.ensures.steps in
    let rest = drop (length xs + 1) items in
    let those = ap (λ ns. filter is_table (map noted ns)) all ∙ ap (filter is_table) (map-append noted xs (note ∷ rest))
    ∙ filter_at is_table (map noted xs) (map noted rest) (noted note) (eq-eqb _ _ c.if-note-eq-NT_FILE.true) in
    TablesSay-none (filter is_table (map noted xs)) (filter is_table (map noted rest)) (noted note) entries none
    (subst (λ ts. TablesSay ts entries) those h)

pub loop-note-preserved-then-note-eq-NT_FILE : goal.loop-note-preserved-then-note-eq-NT_FILE
loop-note-preserved-then-note-eq-NT_FILE c =
    let note = c.in-Some.note in
    let xs = c.loop-note.yielded in
    let all = c.loop-note.entries.items in
    let own = c.in_ok-own.own.items in
    let entries : map file_entry_of c.extend_from_slice.new.self.items ≡ map file_entry_of all ++ map file_entry_of own = ap (map file_entry_of) (c.in_ok-extend_from_slice.ensures.items ∙ ap (λ es. all ++ es) c.deref.ensures.value) ∙ map-append file_entry_of all own in
    let those : filter is_table (map noted (xs ++ note ∷ [])) ≡ filter is_table (map noted xs) ++ noted note ∷ [] = ap (filter is_table) (map-append noted xs (note ∷ []))
    ∙ filter_at is_table (map noted xs) [] (noted note) (eq-eqb _ _ c.if-note-eq-NT_FILE.true) in
    subst (λ ts. TablesSay ts (map file_entry_of c.extend_from_slice.new.self.items)) (sym those)
    (subst (TablesSay (filter is_table (map noted xs) ++ noted note ∷ [])) (sym entries)
    (TablesSay-more (filter is_table (map noted xs)) (map file_entry_of all) (noted note) (map file_entry_of own) c.loop-note.invariant c.in_ok-own.ensures.entries))
