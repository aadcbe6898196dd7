use Rattle.std.proofs.Common.{◌≡◌, length, drop, map}
use Rattle.image_memory.specs.FileTables.{NamesThen, names_start}
use Rattle.native_frames.specs.Tables.{row_of, rows_from}
use Rattle.native_frames.proofs.RowTables.{name_of}
use Rattle.native_frames.proofs.table.table_rows.Given as goal

abbrev pub invariant-loop-number : goal.invariant-loop-number
invariant-loop-number l = record {
  named : NamesThen (drop (names_start l.count) l.table) (map name_of l.rows.items) l.rest;
  says : map row_of l.rows.items ≡ rows_from l.table 0 (map name_of l.rows.items);
  count : length l.rows.items ≡ l.number;
}
