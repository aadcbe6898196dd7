use Rattle.std.proofs.Common.{ap, arith, refl}
use Rattle.std.proofs.lemmas.Result.{err_from_is_err_and}
use Rattle.process_memory.proofs.Reading.{reads_end, reads_halt, reads_next}
use Rattle.py_builtins.proofs.Consulted.{consulting_short}
use Rattle.py_names.specs.NamesError.{names_fault}
use Rattle.task_sets.specs.Roots.{module_at}
use Rattle.py_names.proofs.TypedSteps.{plain_stop, plain_then}
use Rattle.task_sets.proofs.roots.read_module.Goals as goal

pub returns-in-None : goal.returns-in-None
unfolding module_at
returns-in-None g c = rw c.in-None.is (reads_end 1310725 refl)

pub returns-in_err-class-in-Some : goal.returns-in_err-class-in-Some
unfolding module_at
returns-in_err-class-in-Some g c =
    let p = err_from_is_err_and c.from_residual.result c.from_residual.ensures.1 in
    rw (c.in-Some.is, p.1) (reads_halt 1310725 p.0 _ (consulting_short c.in_err-class-in-Some.ensures) p.2.0 (omega
    arith))

pub returns-in_err-place-in-Some : goal.returns-in_err-place-in-Some
unfolding module_at
returns-in_err-place-in-Some g c =
    let p = err_from_is_err_and c.from_residual-in_err-place-in-Some.result
    c.from_residual-in_err-place-in-Some.ensures.1 in
    let plain = plain_stop c.args.layout.now c.in-Some.addr c.in_ok-class-in-Some.class
    c.in_err-place-in-Some.ensures in
    rw (c.in-Some.is, p.1) (reads_next 1310725 _ (consulting_short c.in_ok-class-in-Some.ensures) (reads_halt 3 p.0
    _ (consulting_short plain) p.2.0 (omega arith)) (omega arith))

pub returns-in_err-dict-in-Some : goal.returns-in_err-dict-in-Some
unfolding module_at
returns-in_err-dict-in-Some g c =
    let p = err_from_is_err_and c.from_residual-in_err-dict-in-Some.result
    c.from_residual-in_err-dict-in-Some.ensures.1 in
    let plain = plain_then c.args.layout.now c.in-Some.addr c.in_ok-class-in-Some.class
    c.in_ok-place-in-Some.ensures c.in_err-dict-in-Some.ensures.answer in
    rw (c.in-Some.is, p.1) (reads_next 1310725 _ (consulting_short c.in_ok-class-in-Some.ensures) (reads_halt 3 p.0
    _ (consulting_short plain) p.2.0 (omega arith)) (omega arith))

pub returns-in_err-roots-in-Some : goal.returns-in_err-roots-in-Some
unfolding module_at
returns-in_err-roots-in-Some g c =
    let p = err_from_is_err_and c.from_residual-in_err-roots-in-Some.result
    c.from_residual-in_err-roots-in-Some.ensures.1 in
    let plain = plain_then c.args.layout.now c.in-Some.addr c.in_ok-class-in-Some.class
    c.in_ok-place-in-Some.ensures c.in_ok-dict-in-Some.ensures.answer in
    rw (c.in-Some.is, p.1) (reads_next 1310725 _ (consulting_short c.in_ok-class-in-Some.ensures) (reads_next
    1310723 _ (consulting_short plain)
    (reads_halt 1310720 p.0 _ c.in_err-roots-in-Some.ensures (ap names_fault p.2) (omega arith)) (omega arith))
    (omega arith))

pub returns-in_ok-roots-in-Some : goal.returns-in_ok-roots-in-Some
unfolding module_at
returns-in_ok-roots-in-Some g c =
    let plain = plain_then c.args.layout.now c.in-Some.addr c.in_ok-class-in-Some.class
    c.in_ok-place-in-Some.ensures c.in_ok-dict-in-Some.ensures.answer in
    rw c.in-Some.is (reads_next 1310725 _ (consulting_short c.in_ok-class-in-Some.ensures) (reads_next 1310723 _
    (consulting_short plain)
    (reads_next {k = 0} 1310720 _ c.in_ok-roots-in-Some.ensures (reads_end 0 refl) (omega arith)) (omega arith))
    (omega arith))
