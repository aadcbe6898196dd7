use Rattle.std.proofs.Common.{arith, sym, ap}
use Rattle.std.proofs.lemmas.Result.{err_from_is_err_and}
use Rattle.process_memory.proofs.Reading.{reads_end, reads_halt, reads_next}
use Rattle.py_builtins.specs.ObjectError.{object_fault}
use Rattle.py_reprs.proofs.Views.{tree-Bytes}
use Rattle.py_reprs.specs.Texts.{bytes_front_at}
use Rattle.py_reprs.proofs.texts.read_bytes_front.Goals as goal

pub returns-in_err-front : goal.returns-in_err-front
unfolding bytes_front_at
returns-in_err-front g c =
    let p = err_from_is_err_and c.from_residual.result c.from_residual.ensures.1 in
    let front = rw c.shown_length-count.ensures.value at c.in_err-front.ensures in
    rw p.1 (reads_halt _ p.0 _ front (ap object_fault p.2) (omega (arith, c.shown_length-count.ensures.few, c.shown_length-count.ensures.value)))

pub returns : goal.returns
unfolding bytes_front_at
returns g c =
    let front = rw c.shown_length-count.ensures.value at c.in_ok-front.ensures in
    reads_next {k = 0} _ _ front (reads_end 0 (sym (tree-Bytes _ _ _)))
    (omega (arith, c.shown_length-count.ensures.few, c.shown_length-count.ensures.value))
