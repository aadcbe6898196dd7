use Rattle.std.proofs.Common.{arith, sym}
use Rattle.std.proofs.lemmas.Result.{err_from_is_err_and}
use Rattle.process_memory.proofs.Reading.{reading_short, reads_end, reads_halt, reads_next}
use Rattle.py_reprs.proofs.Views.{tree-Complex}
use Rattle.py_reprs.specs.Numbers.{complex_at}
use Rattle.py_reprs.proofs.numbers.read_complex.Goals as goal

pub returns-in_err-real : goal.returns-in_err-real
unfolding complex_at
returns-in_err-real g c =
    let p = err_from_is_err_and c.from_residual.result c.from_residual.ensures.1 in
    rw p.1 (reads_halt 2 p.0 _ (reading_short c.in_err-real.ensures.answer) p.2 (omega arith))

pub returns-in_err-imaginary : goal.returns-in_err-imaginary
unfolding complex_at
returns-in_err-imaginary g c =
    let p = err_from_is_err_and c.from_residual-in_err-imaginary.result c.from_residual-in_err-imaginary.ensures.1 in
    rw p.1 (reads_next 2 _ (reading_short c.in_ok-real.ensures.answer)
    (reads_halt 1 p.0 _ (reading_short c.in_err-imaginary.ensures.answer) p.2 (omega arith)) (omega arith))

pub returns : goal.returns
unfolding complex_at
returns g c = reads_next 2 _ (reading_short c.in_ok-real.ensures.answer)
    (reads_next {k = 0} 1 _ (reading_short c.in_ok-imaginary.ensures.answer) (reads_end 0 (sym (tree-Complex _ _))) (omega arith)) (omega arith)
