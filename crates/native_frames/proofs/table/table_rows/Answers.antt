use Rattle.std.proofs.Common.{◌≡◌, ◌+◌, ◌∷◌, ◌++◌, [], length, drop, map, ap, subst, sym, ◌∙◌, arith, zero-add}
use Rattle.std.proofs.Common.{length-append}
use Rattle.std.proofs.lemmas.List.{map-append, length-map}
use Rattle.image_memory.specs.FileTables.{NamesThen, names_start}
use Rattle.image_memory.proofs.Tables.{NamesThen-more}
use Rattle.native_frames.specs.Tables.{row_at, row_of, rows_from}
use Rattle.native_frames.proofs.RowTables.{name_of, rows_from-more}
use Rattle.native_frames.proofs.table.table_rows.Goals as goal

pub returns : goal.returns
returns c =
    let items = c.loop-number.rows.items in
    let table = c.args.table.now in
    let names = map name_of items in
    let count : c.u64_in-count.result ≡ length names = omega (
      arith,
      length-map items name_of,
      c.loop-number.invariant.count,
      c.loop-number-test.false,
      c.loop-number.auto.number-end,
    ) in
    record {
      names = names;
      rest = c.loop-number.rest.now;
      header = c.if-table-lt-HEADER_SIZE.false;
      count = sym c.u64_in-count.ensures ∙ count;
      whole = omega (arith, count, c.if-count-room.false, c.if-table-lt-HEADER_SIZE.false);
      named = subst (λ n. NamesThen (drop (names_start n) table) names c.loop-number.rest.now) count
          c.loop-number.invariant.named;
      says = c.loop-number.invariant.says;
    }

pub loop-number-preserved : goal.loop-number-preserved
loop-number-preserved c =
    let items = c.loop-number.rows.items in
    let row = c.row_at.result in
    let table = c.args.table.now in
    let all = c.in_ok-push.ensures.items in
    let names : map name_of c.push.new.self.items ≡ map name_of items ++ c.in-Some.name.now ∷ [] =
    ap (map name_of) all ∙ map-append name_of items (row ∷ [])
    ∙ ap (λ e. map name_of items ++ e.name ∷ []) c.row_at.ensures in
    let number : length (map name_of items) ≡ c.loop-number.number =
    length-map items name_of ∙ c.loop-number.invariant.count in
    record {
      named = subst (λ ns. NamesThen (drop (names_start c.u64_in-count.result) table) ns c.in-Some.after.now)
          (sym names)
          (NamesThen-more _ (map name_of items) c.loop-number.rest.now c.in-Some.name.now c.in-Some.after.now
          c.loop-number.invariant.named c.in-Some.ensures);
      says = ap (map row_of) all ∙ map-append row_of items (row ∷ [])
          ∙ ap (λ es. es ++ row_of row ∷ []) c.loop-number.invariant.says
          ∙ ap (λ e. rows_from table 0 (map name_of items) ++ e ∷ []) (c.row_at.ensures
          ∙ ap (λ n. row_at table n c.in-Some.name.now) (sym (zero-add (length (map name_of items)) ∙ number)))
          ∙ sym (rows_from-more table 0 (map name_of items) c.in-Some.name.now)
          ∙ ap (rows_from table 0) (sym names);
      count = ap length all ∙ length-append items (row ∷ []) ∙ ap (λ n. n + 1) c.loop-number.invariant.count;
    }
