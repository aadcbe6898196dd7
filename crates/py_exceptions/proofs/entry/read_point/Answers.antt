use Rattle.std.proofs.Common.{ap, arith, sym, ◌∙◌}
use Rattle.std.proofs.lemmas.Result.{err_from_is_err_and}
use Rattle.process_memory.proofs.Reading.{reading_short, reads_end, reads_halt, reads_next}
use Rattle.py_exceptions.specs.Frames.{point_at, point_of}
use Rattle.py_exceptions.proofs.entry.read_point.Goals as goal

pub returns-in_err-bytes : goal.returns-in_err-bytes
unfolding point_at
returns-in_err-bytes g c =
    let p = err_from_is_err_and c.from_residual.result c.from_residual.ensures.1 in
    rw p.1 (reads_halt 1 p.0 _ (reading_short c.in_err-bytes.ensures.answer) p.2 (omega arith))

pub returns : goal.returns
unfolding point_at
returns g c =
    let is = c.point_of.ensures ∙ ap (λ xs. point_of c.args.places.now xs) c.deref.ensures.value in
    reads_next {k = 0} 1 _ (reading_short c.in_ok-bytes.ensures.answer) (reads_end 0 (sym is)) (omega arith)
