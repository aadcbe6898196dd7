use Rattle.std.proofs.Common.{arith, sym}
use Rattle.std.proofs.lemmas.Result.{err_from_is_err_and}
use Rattle.process_memory.proofs.Reading.{reading_short, reads_end, reads_halt, reads_next}
use Rattle.py_reprs.proofs.Views.{tree-Float}
use Rattle.py_reprs.specs.Numbers.{float_at}
use Rattle.py_reprs.proofs.numbers.read_float.Goals as goal

pub returns-in_err-bits : goal.returns-in_err-bits
unfolding float_at
returns-in_err-bits g c =
    let p = err_from_is_err_and c.from_residual.result c.from_residual.ensures.1 in
    rw p.1 (reads_halt 1 p.0 _ (reading_short c.in_err-bits.ensures.answer) p.2 (omega arith))

pub returns : goal.returns
unfolding float_at
returns g c = reads_next {k = 0} 1 _ (reading_short c.in_ok-bits.ensures.answer) (reads_end 0 (sym (tree-Float _))) (omega arith)
