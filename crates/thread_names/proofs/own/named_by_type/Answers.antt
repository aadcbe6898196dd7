use Rattle.std.proofs.Common.{ap, arith, refl}
use Rattle.std.proofs.lemmas.Result.{err_from_is_err_and}
use Rattle.std.specs.Prelude.{codes}
use Rattle.process_memory.proofs.Reading.{reads_end, reads_halt, reads_next}
use Rattle.py_builtins.proofs.Consulted.{consulting_short}
use Rattle.py_names.specs.NamesError.{names_fault}
use Rattle.thread_names.specs.Own.{named_by_type}
use Rattle.thread_names.proofs.Searches.{find_few}
use Rattle.thread_names.proofs.own.named_by_type.Goals as goal

pub returns-in_err-class : goal.returns-in_err-class
unfolding named_by_type
returns-in_err-class g c =
    let p = err_from_is_err_and c.from_residual.result c.from_residual.ensures.1 in
    rw p.1 (reads_halt 1030 p.0 _ (consulting_short c.in_err-class.ensures) p.2.0 (omega arith))

pub returns-in_err-dict : goal.returns-in_err-dict
unfolding named_by_type
returns-in_err-dict g c =
    let p = err_from_is_err_and c.from_residual-in_err-dict.result c.from_residual-in_err-dict.ensures.1 in
    rw p.1 (reads_next 1030 _ (consulting_short c.in_ok-class.ensures)
    (reads_halt 4 p.0 _ c.in_err-dict.ensures.answer (ap names_fault p.2) (omega arith)) (omega arith))

pub returns-in_err-search : goal.returns-in_err-search
unfolding named_by_type
returns-in_err-search g c =
    let p = err_from_is_err_and c.from_residual-in_err-search.result c.from_residual-in_err-search.ensures.1 in
    let found = find_few c.args.layout.now (codes "_name") c.in_ok-dict.dict.slots 256
    c.in_err-search.ensures.answer in
    rw p.1 (reads_next 1030 _ (consulting_short c.in_ok-class.ensures)
    (reads_next 1028 _ c.in_ok-dict.ensures.answer (reads_halt 1024 p.0 _ found (ap names_fault p.2) (omega arith))
    (omega arith)) (omega arith))

pub returns : goal.returns
unfolding named_by_type
returns g c =
    let found = find_few c.args.layout.now (codes "_name") c.in_ok-dict.dict.slots 256
    c.in_ok-search.ensures.answer in
    reads_next 1030 _ (consulting_short c.in_ok-class.ensures) (reads_next 1028 _ c.in_ok-dict.ensures.answer
    (reads_next {k = 0} 1024 _ found (reads_end 0 refl) (omega arith)) (omega arith)) (omega arith)
