use Rattle.std.proofs.Common.{◌+◌, ◌/◌, arith, ap}
use Rattle.std.proofs.lemmas.Result.{err_from_is_err_and}
use Rattle.process_memory.proofs.Reading.{reading_short, reads_halt, reads_known, reads_next}
use Rattle.py_builtins.specs.ObjectError.{object_fault}
use Rattle.py_reprs.specs.Texts.{bytearray_at}
use Rattle.py_reprs.proofs.texts.read_bytearray.Goals as goal

pub returns-in_err-fields : goal.returns-in_err-fields
unfolding bytearray_at
returns-in_err-fields g c =
    let p = err_from_is_err_and c.from_residual.result c.from_residual.ensures.1 in
    rw p.1 (reads_halt _ p.0 _ (reading_short c.in_err-fields.ensures.answer) p.2 (omega arith))

pub returns-in_err-length : goal.returns-in_err-length
unfolding bytearray_at
returns-in_err-length g c =
    let p = err_from_is_err_and c.from_residual-in_err-length.result c.from_residual-in_err-length.ensures.1 in
    let length = rw (c.u64_in.ensures, c.deref.ensures.value) at c.in_err-length.ensures in
    rw p.1 (reads_next _ _ (reading_short c.in_ok-fields.ensures.answer) (reads_halt 0 p.0 _
    (reads_known 0 _ _ (λ m. length)) (ap object_fault p.2) (omega arith)) (omega arith))

pub returns : goal.returns
unfolding bytearray_at
returns g c =
    let length = rw (c.u64_in.ensures, c.deref.ensures.value) at c.in_ok-length.ensures in
    let last = rw (c.u64_in-at.ensures, c.deref-2.ensures.value) at c.read_bytes_front.ensures in
    reads_next _ _ (reading_short c.in_ok-fields.ensures.answer) (reads_next (c.args.limits.now.characters / 1024 + 1) _
    (reads_known 0 _ _ (λ m. length)) last (omega arith)) (omega arith)
