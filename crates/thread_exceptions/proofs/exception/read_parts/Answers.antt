use Rattle.std.proofs.Common.{ap, arith, refl, sym, ◌∙◌}
use Rattle.std.proofs.lemmas.Result.{err_from_is_err_and}
use Rattle.process_memory.proofs.Reading.{reading_short, reads_end, reads_halt, reads_next, reads_same}
use Rattle.process_memory.specs.Seen.{read_fault}
use Rattle.thread_exceptions.specs.Exceptions.{parts_at, parts_if}
use Rattle.thread_exceptions.proofs.exception.read_parts.Goals as goal

pub returns-in_err-class : goal.returns-in_err-class
unfolding parts_at
returns-in_err-class g c =
    let p = err_from_is_err_and c.from_residual.result c.from_residual.ensures.1 in
    rw p.1 (reads_halt 3 p.0 _ (reading_short c.in_err-class.ensures.answer) (ap read_fault p.2) (omega arith))

pub returns-in_err-flags : goal.returns-in_err-flags
unfolding parts_at
returns-in_err-flags g c =
    let p = err_from_is_err_and c.from_residual-in_err-flags.result c.from_residual-in_err-flags.ensures.1 in
    rw p.1 (reads_next 3 _ (reading_short c.in_ok-class.ensures.answer)
    (reads_halt 2 p.0 _ (reading_short c.in_err-flags.ensures.answer) (ap read_fault p.2) (omega arith)) (omega arith))

pub returns-then-is : goal.returns-then-is
unfolding parts_at
returns-then-is g c =
    let is = sym c.is_exception-is.ensures ∙ c.if-is.true in
    reads_next 3 _ (reading_short c.in_ok-class.ensures.answer)
    (reads_next 2 _ (reading_short c.in_ok-flags.ensures.answer)
    (reads_same _ _ (λ m. ap (parts_if c.args.places.now m c.args.at c.in_ok-class.class) is) c.read_record.ensures)
    (omega arith)) (omega arith)

pub returns : goal.returns
unfolding parts_at
returns g c =
    let is = sym c.is_exception-is.ensures ∙ c.if-is.false in
    reads_next {k = 1} 3 _ (reading_short c.in_ok-class.ensures.answer)
    (reads_next {k = 0} 1 _ (reading_short c.in_ok-flags.ensures.answer)
    (reads_same _ _ (λ m. ap (parts_if c.args.places.now m c.args.at c.in_ok-class.class) is) (reads_end 0 refl))
    (omega arith)) (omega arith)
