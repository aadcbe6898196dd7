use Rattle.std.proofs.Common.{◌+◌, ◌*◌, ap, arith}
use Rattle.std.proofs.lemmas.Result.{err_from_is_err_and}
use Rattle.process_memory.proofs.Reading.{reads_halt, reads_next}
use Rattle.py_names.specs.NamesError.{names_fault}
use Rattle.py_tasks.specs.Entries.{known_at}
use Rattle.py_tasks.proofs.entries.read_known.Goals as goal

pub returns-in_err-is_task : goal.returns-in_err-is_task
unfolding known_at
returns-in_err-is_task g c =
    let p = err_from_is_err_and c.from_residual.result c.from_residual.ensures.1 in
    rw p.1 (reads_halt (16568 + 17 * c.args.limit) p.0 _ c.in_err-is_task.ensures (ap names_fault p.2) (omega arith))

pub returns-then-is_task : goal.returns-then-is_task
unfolding known_at
returns-then-is_task g c =
    let is = rw c.if-is_task.true at c.in_ok-is_task.ensures in
    reads_next (16568 + 17 * c.args.limit) _ is c.read_some_task.ensures (omega arith)

pub returns : goal.returns
unfolding known_at
returns g c =
    let is = rw c.if-is_task.false at c.in_ok-is_task.ensures in
    reads_next (16568 + 17 * c.args.limit) _ is c.read_other.ensures (omega arith)
