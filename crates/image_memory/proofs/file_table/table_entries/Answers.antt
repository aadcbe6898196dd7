use Rattle.std.proofs.Common.{◌≡◌, ◌+◌, ◌∷◌, ◌++◌, [], length, drop, map, ap, subst, sym, ◌∙◌, arith, zero-add}
use Rattle.std.proofs.Common.{length-append}
use Rattle.std.proofs.lemmas.List.{map-append, length-map}
use Rattle.image_memory.specs.FileTables.{NamesThen, entries_from, entry_at, file_entry_of, names_start}
use Rattle.image_memory.proofs.Tables.{NamesThen-more, entries_from-more, name_of, no_table}
use Rattle.image_memory.proofs.file_table.table_entries.Goals as goal

pub returns-in_default-clause-bad : goal.returns-in_default-clause-bad
returns-in_default-clause-bad c = λ _.
    let items = c.loop-number.entries.items in
    no_table c.args.table.now c.u64_in-count.result (map name_of items) c.loop-number.rest.now (sym c.u64_in-count.ensures)
    c.loop-number.invariant.named (omega (arith, length-map items name_of, c.loop-number.invariant.count, c.loop-number-test.true)) c.in_default.ensures

pub returns-clause-entries : goal.returns-clause-entries
returns-clause-entries c =
    let items = c.loop-number.entries.items in
    let table = c.args.table.now in
    let names = map name_of items in
    let count : c.u64_in-count.result ≡ length names = omega (arith, length-map items name_of, c.loop-number.invariant.count, c.loop-number-test.false, c.loop-number.auto.number-end) in
    record {
      names = names;
      rest = c.loop-number.rest.now;
      header = c.if-table-lt-HEADER_SIZE.false;
      count = sym c.u64_in-count.ensures ∙ count;
      whole = omega (arith, count, c.if-count-room.false, c.if-table-lt-HEADER_SIZE.false);
      named = subst (λ n. NamesThen (drop (names_start n) table) names c.loop-number.rest.now) count c.loop-number.invariant.named;
      says = c.loop-number.invariant.says;
    }

pub loop-number-preserved : goal.loop-number-preserved
loop-number-preserved c =
    let items = c.loop-number.entries.items in
    let entry = c.entry_at.result in
    let table = c.args.table.now in
    let all = c.in_ok-push.ensures.items in
    let names : map name_of c.push.new.self.items ≡ map name_of items ++ c.in-Some.name.now ∷ [] = ap (map name_of) all ∙ map-append name_of items (entry ∷ []) ∙ ap (λ e. map name_of items ++ e.name ∷ []) c.entry_at.ensures in
    let number : length (map name_of items) ≡ c.loop-number.number = length-map items name_of ∙ c.loop-number.invariant.count in
    record {
      named = subst (λ ns. NamesThen (drop (names_start c.u64_in-count.result) table) ns c.in-Some.after.now) (sym names)
          (NamesThen-more _ (map name_of items) c.loop-number.rest.now c.in-Some.name.now c.in-Some.after.now c.loop-number.invariant.named c.in-Some.ensures);
      says = ap (map file_entry_of) all ∙ map-append file_entry_of items (entry ∷ [])
          ∙ ap (λ es. es ++ file_entry_of entry ∷ []) c.loop-number.invariant.says
          ∙ ap (λ e. entries_from table 0 (map name_of items) ++ e ∷ []) (c.entry_at.ensures ∙ ap (λ n. entry_at table n c.in-Some.name.now) (sym (zero-add (length (map name_of items)) ∙ number)))
          ∙ sym (entries_from-more table 0 (map name_of items) c.in-Some.name.now)
          ∙ ap (entries_from table 0) (sym names);
      count = ap length all ∙ length-append items (entry ∷ []) ∙ ap (λ n. n + 1) c.loop-number.invariant.count;
    }
