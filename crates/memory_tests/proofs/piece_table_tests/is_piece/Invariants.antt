use Rattle.memory_tests.proofs.piece_table_tests.is_piece.Given as goal

abbrev pub ghosts-found : goal.ghosts-found
ghosts-found a = record { name = a.blank.name; parts = a.blank.parts }
