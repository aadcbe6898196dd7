use Rattle.std.proofs.Common.{arith, sym}
use Rattle.std.proofs.lemmas.Result.{err_from_is_err_and}
use Rattle.process_memory.proofs.Reading.{reads_end, reads_halt, reads_next}
use Rattle.py_reprs.specs.Coroutines.{stated_at}
use Rattle.py_reprs.proofs.coroutines.read_stated.Goals as goal

pub returns-in_err-standing : goal.returns-in_err-standing
unfolding stated_at
returns-in_err-standing g c =
    let p = err_from_is_err_and c.from_residual.result c.from_residual.ensures.1 in
    rw p.1 (reads_halt 2 p.0 _ c.in_err-standing.ensures p.2 (omega arith))

pub returns : goal.returns
unfolding stated_at
returns g c = reads_next {k = 0} 2 _ c.in_ok-standing.ensures (reads_end 0 (sym c.state_of.ensures)) (omega arith)
