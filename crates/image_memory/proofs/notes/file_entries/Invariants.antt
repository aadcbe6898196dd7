use Rattle.std.proofs.Common.{filter, map}
use Rattle.elf64_core.specs.Notes.{noted}
use Rattle.image_memory.specs.FileTables.{file_entry_of}
use Rattle.image_memory.specs.Notes.{TablesSay, is_table}
use Rattle.image_memory.proofs.notes.file_entries.Given as goal

abbrev pub invariant-loop-note : goal.invariant-loop-note
invariant-loop-note l = TablesSay (filter is_table (map noted l.yielded)) (map file_entry_of l.entries.items)
