use Rattle.std.proofs.Common.{◌+◌, ◌*◌, arith, ap, refl}
use Rattle.std.specs.Prelude.{Some}
use Rattle.std.proofs.Math.Nat.{le_refl}
use Rattle.std.proofs.lemmas.Result.{err_from_is_err_and}
use Rattle.process_memory.specs.Memory.{byte_at}
use Rattle.process_memory.proofs.Reading.{reads_next, reads_halt, reads_end}
use Rattle.py_names.specs.NamesError.{names_fault}
use Rattle.py_names.proofs.TypedSteps.{plain_stop, plain_then}
use Rattle.type_places.specs.ModuleTypes.{module_entry_at, module_entry_looked}
use Rattle.type_places.proofs.ModuleSteps.{entry_counts}
use Rattle.type_places.proofs.module_types.module_entry.Goals as goal

pub returns-in-None-clause-answer : goal.returns-in-None-clause-answer
unfolding module_entry_at
returns-in-None-clause-answer g c = rw c.in-None.is (reads_end _ refl)

pub returns-in_err-place-in-Some-clause-answer : goal.returns-in_err-place-in-Some-clause-answer
unfolding module_entry_at
returns-in_err-place-in-Some-clause-answer g c =
    let p = err_from_is_err_and c.from_residual-in_err-place-in-Some.result
    c.from_residual-in_err-place-in-Some.ensures.1 in
    let plain = plain_stop c.args.layout.now c.in-Some.addr c.in_ok-class-in-Some.class c.in_err-place-in-Some.ensures
    in
    rw (c.in-Some.is, p.1) (reads_next _ _ c.in_ok-class-in-Some.ensures (reads_halt 3 p.0 _ plain p.2.0 (le_refl 3))
    (omega arith))

pub returns-in_err-dict-in-Some-clause-answer : goal.returns-in_err-dict-in-Some-clause-answer
unfolding module_entry_at
returns-in_err-dict-in-Some-clause-answer g c =
    let p = err_from_is_err_and c.from_residual-in_err-dict-in-Some.result
    c.from_residual-in_err-dict-in-Some.ensures.1 in
    let plain =
    plain_then c.args.layout.now c.in-Some.addr c.in_ok-class-in-Some.class c.in_ok-place-in-Some.ensures
    c.in_err-dict-in-Some.ensures.answer in
    rw (c.in-Some.is, p.1) (reads_next _ _ c.in_ok-class-in-Some.ensures (reads_halt 3 p.0 _ plain p.2.0 (le_refl 3))
    (omega arith))

pub returns-in_err-search-in-Some-clause-answer : goal.returns-in_err-search-in-Some-clause-answer
unfolding module_entry_at
returns-in_err-search-in-Some-clause-answer g c =
    let p = err_from_is_err_and c.from_residual-in_err-search-in-Some.result
    c.from_residual-in_err-search-in-Some.ensures.1 in
    let plain =
    plain_then c.args.layout.now c.in-Some.addr c.in_ok-class-in-Some.class c.in_ok-place-in-Some.ensures
    c.in_ok-dict-in-Some.ensures.answer in
    let n =
    module_entry_looked c.args.layout.now (byte_at (g.P.ProcessMemory.seen c.args.process.now).pieces) c.args.name.now
    (Some c.in-Some.addr) c.args.holder.left in
    let count =
    entry_counts c.args.layout.now c.args.name.now c.in-Some.addr c.args.holder.left c.in_ok-class-in-Some.ensures
    plain in
    rw (c.in-Some.is, p.1) (reads_next _ _ c.in_ok-class-in-Some.ensures (reads_next (3 + 4 * n) _ plain
    (reads_halt (4 * n) p.0 _ c.in_err-search-in-Some.ensures.answer (ap names_fault p.2) (omega (arith, count)))
    (le_refl _)) (omega arith))

pub returns-in_ok-search-in-Some-clause-answer : goal.returns-in_ok-search-in-Some-clause-answer
unfolding module_entry_at
returns-in_ok-search-in-Some-clause-answer g c =
    let plain =
    plain_then c.args.layout.now c.in-Some.addr c.in_ok-class-in-Some.class c.in_ok-place-in-Some.ensures
    c.in_ok-dict-in-Some.ensures.answer in
    let n =
    module_entry_looked c.args.layout.now (byte_at (g.P.ProcessMemory.seen c.args.process.now).pieces) c.args.name.now
    (Some c.in-Some.addr) c.args.holder.left in
    let count =
    entry_counts c.args.layout.now c.args.name.now c.in-Some.addr c.args.holder.left c.in_ok-class-in-Some.ensures
    plain in
    rw c.in-Some.is (reads_next _ _ c.in_ok-class-in-Some.ensures (reads_next (3 + 4 * n) _ plain
    (reads_next (4 * n) _ c.in_ok-search-in-Some.ensures.answer (reads_end 0 refl) (omega (arith, count))) (le_refl _))
    (omega arith))
