use Rattle.std.proofs.Common.{sym, arith}
use Rattle.process_memory.proofs.Reading.{reads_next, reads_end}
use Rattle.py_selftest.specs.Checking.{undescribed_at}
use Rattle.py_selftest.specs.Trusting.{table_at}
use Rattle.py_selftest.proofs.Keeping.{reads_kept}
use Rattle.py_selftest.proofs.checking.undescribed_check.Goals as goal

pub returns : goal.returns
unfolding undescribed_at
returns g c = reads_next 3 _ (reads_kept (λ m. table_at m c.args.release c.args.runtime) c.in_ok-table.ensures
    c.read_table.ensures) (reads_end 0 (sym c.undescribed.ensures)) (omega arith)
