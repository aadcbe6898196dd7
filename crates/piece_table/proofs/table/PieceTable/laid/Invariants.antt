use Rattle.piece_table.proofs.table.PieceTable.laid.Given as goal

abbrev pub ghosts-laid_by : goal.ghosts-laid_by
ghosts-laid_by a = record { name = a.blank.name; parts = a.blank.parts }
