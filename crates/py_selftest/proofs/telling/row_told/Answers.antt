use Rattle.std.proofs.Common.{ap, refl, arith}
use Rattle.std.proofs.lemmas.Result.{err_from_is_err_and}
use Rattle.process_memory.specs.Seen.{read_fault}
use Rattle.process_memory.proofs.Reading.{reads_next, reads_halt, reads_end, reads_same}
use Rattle.py_selftest.specs.Rows.{row_of}
use Rattle.py_selftest.specs.Telling.{entry_told, row_told, told_else}
use Rattle.py_selftest.proofs.Keeping.{reads_kept}
use Rattle.py_selftest.proofs.telling.row_told.Goals as goal

pub returns-in_err-by_table : goal.returns-in_err-by_table
unfolding row_told
returns-in_err-by_table g c =
    let p = err_from_is_err_and c.from_residual.result c.from_residual.ensures.1 in
    rw p.1 (reads_halt 1027 p.0 _ (reads_kept (λ m. entry_told m c.args.telling.now.table c.args.row.now.entry)
    c.in_err-by_table.ensures c.entry_told.ensures) (ap read_fault p.2) (omega arith))

pub returns-in-Some : goal.returns-in-Some
unfolding row_told told_else
returns-in-Some g c =
    reads_next {k = 1025} 1027 _ (reads_kept (λ m. entry_told m c.args.telling.now.table c.args.row.now.entry)
    c.in_ok-by_table.ensures c.entry_told.ensures)
    (reads_same _ _ (λ m. ap (told_else m c.args.telling.now (row_of c.args.row.now)) c.in-Some.is)
    (reads_end 1025 refl)) (omega arith)

pub returns-in-None : goal.returns-in-None
unfolding row_told told_else
returns-in-None g c =
    reads_next 1027 _ (reads_kept (λ m. entry_told m c.args.telling.now.table c.args.row.now.entry)
    c.in_ok-by_table.ensures c.entry_told.ensures)
    (reads_same _ _ (λ m. ap (told_else m c.args.telling.now (row_of c.args.row.now)) c.in-None.is)
    (reads_kept _ c.kept-in-None.ensures c.source_told.ensures)) (omega arith)
