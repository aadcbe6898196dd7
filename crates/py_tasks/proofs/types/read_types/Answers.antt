use Rattle.std.proofs.Common.{ap, arith, refl}
use Rattle.std.proofs.lemmas.Result.{err_from_is_err_and}
use Rattle.process_memory.proofs.Reading.{reads_end, reads_halt, reads_next}
use Rattle.py_names.specs.NamesError.{names_fault}
use Rattle.py_tasks.specs.Types.{types_at}
use Rattle.py_tasks.proofs.types.read_types.Goals as goal

pub returns-in_err-coroutine : goal.returns-in_err-coroutine
unfolding types_at
returns-in_err-coroutine g c =
    let p = err_from_is_err_and c.from_residual.result c.from_residual.ensures.1 in
    rw p.1 (reads_halt 1048616 p.0 _ c.in_err-coroutine.ensures (ap names_fault p.2) (omega arith))

pub returns-in_err-generator : goal.returns-in_err-generator
unfolding types_at
returns-in_err-generator g c =
    let p = err_from_is_err_and c.from_residual-in_err-generator.result c.from_residual-in_err-generator.ensures.1 in
    rw p.1 (reads_next 1048616 _ c.in_ok-coroutine.ensures (reads_halt 786462 p.0 _ c.in_err-generator.ensures
    (ap names_fault p.2) (omega arith)) (omega arith))

pub returns-in_err-async_generator : goal.returns-in_err-async_generator
unfolding types_at
returns-in_err-async_generator g c =
    let p = err_from_is_err_and c.from_residual-in_err-async_generator.result
    c.from_residual-in_err-async_generator.ensures.1 in
    rw p.1 (reads_next 1048616 _ c.in_ok-coroutine.ensures (reads_next 786462 _ c.in_ok-generator.ensures
    (reads_halt 524308 p.0 _ c.in_err-async_generator.ensures (ap names_fault p.2) (omega arith)) (omega arith))
    (omega arith))

pub returns-in_err-future : goal.returns-in_err-future
unfolding types_at
returns-in_err-future g c =
    let p = err_from_is_err_and c.from_residual-in_err-future.result c.from_residual-in_err-future.ensures.1 in
    rw p.1 (reads_next 1048616 _ c.in_ok-coroutine.ensures (reads_next 786462 _ c.in_ok-generator.ensures
    (reads_next 524308 _ c.in_ok-async_generator.ensures (reads_halt 262154 p.0 _ c.in_err-future.ensures
    (ap names_fault p.2) (omega arith)) (omega arith)) (omega arith)) (omega arith))

pub returns : goal.returns
unfolding types_at
returns g c = (reads_next 1048616 _ c.in_ok-coroutine.ensures
    (reads_next 786462 _ c.in_ok-generator.ensures (reads_next 524308 _ c.in_ok-async_generator.ensures
    (reads_next 262154 _ c.in_ok-future.ensures (reads_end 0 refl) (omega arith)) (omega arith)) (omega arith))
    (omega arith))
