use Rattle.std.proofs.Common.{ap, arith, sym, ◌∙◌}
use Rattle.std.proofs.lemmas.Result.{err_from_is_err_and}
use Rattle.process_memory.proofs.Reading.{reading_short, reads_halt, reads_next, reads_same}
use Rattle.process_memory.specs.Seen.{read_fault}
use Rattle.py_coroutines.specs.Standings.{apart_at, by_framed, framed_of}
use Rattle.py_coroutines.proofs.standing.read_apart.Goals as goal

pub returns-in_err-bytes : goal.returns-in_err-bytes
unfolding apart_at
returns-in_err-bytes g c =
    let p = err_from_is_err_and c.from_residual.result c.from_residual.ensures.1 in
    rw p.1 (reads_halt 2 p.0 _ (reading_short c.in_err-bytes.ensures.answer) (ap read_fault p.2) (omega arith))

pub returns : goal.returns
unfolding apart_at
returns g c =
    let is = ap (framed_of c.args.places.now) (sym c.deref.ensures.value) ∙ sym c.framed_of-framed.ensures in
    reads_next 2 _ (reading_short c.in_ok-bytes.ensures.answer)
    (reads_same _ _ (λ m. ap (by_framed c.args.places.now m) is) c.read_framed.ensures) (omega arith)
