use Rattle.std.proofs.Common.{ap, arith, sym, ◌∙◌}
use Rattle.std.specs.Prelude.{Some}
use Rattle.std.proofs.lemmas.Result.{err_from_is_err_and}
use Rattle.process_memory.proofs.Reading.{reading_short, reads_end, reads_halt, reads_next}
use Rattle.process_memory.specs.Seen.{read_fault}
use Rattle.thread_exceptions.specs.Exceptions.{parts_in}
use Rattle.thread_exceptions.proofs.exception.read_record.Goals as goal

pub returns-in_err-bytes : goal.returns-in_err-bytes
returns-in_err-bytes g c =
    let p = err_from_is_err_and c.from_residual.result c.from_residual.ensures.1 in
    rw p.1 (reads_halt 1 p.0 _ (reading_short c.in_err-bytes.ensures.answer) (ap read_fault p.2) (omega arith))

pub returns : goal.returns
returns g c =
    let parts = ap (λ b. Some (parts_in c.args.places.now.exception c.args.class b)) (sym c.deref.ensures.value)
    ∙ ap Some (sym c.parts_in.ensures) in
    reads_next 1 _ (reading_short c.in_ok-bytes.ensures.answer) (reads_end 0 parts) (omega arith)
