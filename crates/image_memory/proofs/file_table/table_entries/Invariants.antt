use Rattle.std.proofs.Common.{◌≡◌, length, drop, map}
use Rattle.image_memory.specs.FileTables.{NamesThen, entries_from, file_entry_of, names_start}
use Rattle.image_memory.proofs.Tables.{name_of}
use Rattle.image_memory.proofs.file_table.table_entries.Given as goal

abbrev pub invariant-loop-number : goal.invariant-loop-number
invariant-loop-number l = record {
  named : NamesThen (drop (names_start l.count) l.table) (map name_of l.entries.items) l.rest;
  says : map file_entry_of l.entries.items ≡ entries_from l.table 0 (map name_of l.entries.items);
  count : length l.entries.items ≡ l.number;
}
