use Rattle.std.proofs.Common.{ap, arith, refl}
use Rattle.std.proofs.lemmas.Result.{err_from_is_err_and}
use Rattle.std.specs.Prelude.{codes}
use Rattle.process_memory.proofs.Reading.{reads_end, reads_halt, reads_next}
use Rattle.py_builtins.proofs.Consulted.{consulting_short}
use Rattle.py_names.proofs.TypedSteps.{plain_stop, plain_then}
use Rattle.py_names.specs.NamesError.{names_fault}
use Rattle.thread_names.specs.Active.{active_in}
use Rattle.thread_names.proofs.Searches.{find_few}
use Rattle.thread_names.proofs.active.read_module.Goals as goal

pub returns-in-None-clause-answer : goal.returns-in-None-clause-answer
unfolding active_in
returns-in-None-clause-answer g c = rw c.in-None.is (reads_end 262151 refl)

pub returns-in_err-class-in-Some-clause-answer : goal.returns-in_err-class-in-Some-clause-answer
unfolding active_in
returns-in_err-class-in-Some-clause-answer g c =
    let p = err_from_is_err_and c.from_residual.result c.from_residual.ensures.1 in
    rw (c.in-Some.is, p.1)
    (reads_halt 262151 p.0 _ (consulting_short c.in_err-class-in-Some.ensures) p.2.0 (omega arith))

pub returns-in_err-place-in-Some-clause-answer : goal.returns-in_err-place-in-Some-clause-answer
unfolding active_in
returns-in_err-place-in-Some-clause-answer g c =
    let p = err_from_is_err_and c.from_residual-in_err-place-in-Some.result
    c.from_residual-in_err-place-in-Some.ensures.1 in
    let plain = plain_stop c.args.layout.now c.in-Some.addr c.in_ok-class-in-Some.class
    c.in_err-place-in-Some.ensures in
    rw (c.in-Some.is, p.1) (reads_next 262151 _ (consulting_short c.in_ok-class-in-Some.ensures)
    (reads_halt 3 p.0 _ (consulting_short plain) p.2.0 (omega arith)) (omega arith))

pub returns-in_err-dict-in-Some-clause-answer : goal.returns-in_err-dict-in-Some-clause-answer
unfolding active_in
returns-in_err-dict-in-Some-clause-answer g c =
    let p = err_from_is_err_and c.from_residual-in_err-dict-in-Some.result
    c.from_residual-in_err-dict-in-Some.ensures.1 in
    let plain = plain_then c.args.layout.now c.in-Some.addr c.in_ok-class-in-Some.class
    c.in_ok-place-in-Some.ensures c.in_err-dict-in-Some.ensures.answer in
    rw (c.in-Some.is, p.1) (reads_next 262151 _ (consulting_short c.in_ok-class-in-Some.ensures)
    (reads_halt 3 p.0 _ (consulting_short plain) p.2.0 (omega arith)) (omega arith))

pub returns-in_err-search-in-Some-clause-answer : goal.returns-in_err-search-in-Some-clause-answer
unfolding active_in
returns-in_err-search-in-Some-clause-answer g c =
    let p = err_from_is_err_and c.from_residual-in_err-search-in-Some.result
    c.from_residual-in_err-search-in-Some.ensures.1 in
    let plain = plain_then c.args.layout.now c.in-Some.addr c.in_ok-class-in-Some.class
    c.in_ok-place-in-Some.ensures c.in_ok-dict-in-Some.ensures.answer in
    let found = find_few c.args.layout.now (codes "_active") c.in_ok-dict-in-Some.dict.slots 65536
    c.in_err-search-in-Some.ensures.answer in
    rw (c.in-Some.is, p.1) (reads_next 262151 _ (consulting_short c.in_ok-class-in-Some.ensures)
    (reads_next 262147 _ (consulting_short plain) (reads_halt 262144 p.0 _ found (ap names_fault p.2) (omega arith))
    (omega arith)) (omega arith))

pub returns-in_ok-search-in-Some-clause-answer : goal.returns-in_ok-search-in-Some-clause-answer
unfolding active_in
returns-in_ok-search-in-Some-clause-answer g c =
    let plain = plain_then c.args.layout.now c.in-Some.addr c.in_ok-class-in-Some.class
    c.in_ok-place-in-Some.ensures c.in_ok-dict-in-Some.ensures.answer in
    let found = find_few c.args.layout.now (codes "_active") c.in_ok-dict-in-Some.dict.slots 65536
    c.in_ok-search-in-Some.ensures.answer in
    rw c.in-Some.is (reads_next 262151 _ (consulting_short c.in_ok-class-in-Some.ensures)
    (reads_next 262149 _ (consulting_short plain) (reads_next 262146 _ found c.read_dict.ensures.answer (omega arith))
    (omega arith)) (omega arith))
