use Rattle.memory_tests.proofs.elf_tests.a_table_gives_its_entries.Given as goal

abbrev pub ghosts-entry_at : goal.ghosts-entry_at
ghosts-entry_at g a = record { name = a.blank.name; parts = a.blank.parts }
