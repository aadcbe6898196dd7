use Rattle.std.proofs.Common.{ap, arith}
use Rattle.std.proofs.lemmas.Result.{err_from_is_err_and}
use Rattle.process_memory.proofs.Reading.{reading_short, reads_halt, reads_next}
use Rattle.process_memory.specs.Seen.{read_fault}
use Rattle.py_coroutines.specs.Objects.{coded_turn_at}
use Rattle.py_coroutines.proofs.turn.read_coded.Goals as goal

pub returns-in_err-bytecode : goal.returns-in_err-bytecode
unfolding coded_turn_at
returns-in_err-bytecode g c =
    let p = err_from_is_err_and c.from_residual.result c.from_residual.ensures.1 in
    rw p.1 (reads_halt 3 p.0 _ (reading_short c.in_err-bytecode.ensures.answer) (ap read_fault p.2) (omega arith))

pub returns : goal.returns
unfolding coded_turn_at
returns g c = reads_next 3 _ (reading_short c.in_ok-bytecode.ensures.answer) c.read_by_code.ensures (omega arith)
