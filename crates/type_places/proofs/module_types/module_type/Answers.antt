use Rattle.std.proofs.Common.{◌+◌, ◌*◌, arith, ap}
use Rattle.std.proofs.lemmas.Result.{err_from_is_err_and}
use Rattle.process_memory.specs.Memory.{byte_at}
use Rattle.process_memory.proofs.Reading.{reads_next, reads_halt}
use Rattle.py_names.specs.Names.{slot_limit}
use Rattle.py_names.specs.NamesError.{names_fault}
use Rattle.py_names.proofs.NameCounts.{search_counts}
use Rattle.type_places.specs.ModuleTypes.{module_entry_looked, module_slots_looked_at, module_type_at}
use Rattle.type_places.proofs.ModuleSteps.{dict_counts, looked_at_most}
use Rattle.type_places.proofs.module_types.module_type.Goals as goal

pub returns-in_err-dict-clause-answer : goal.returns-in_err-dict-clause-answer
unfolding module_type_at
returns-in_err-dict-clause-answer g c =
    let p = err_from_is_err_and c.from_residual.result c.from_residual.ensures.1 in
    rw p.1 (reads_halt _ p.0 _ c.in_err-dict.ensures.answer p.2.0 (omega arith))

pub returns-in_err-holder-clause-answer : goal.returns-in_err-holder-clause-answer
unfolding module_type_at
returns-in_err-holder-clause-answer g c =
    let p = err_from_is_err_and c.from_residual-in_err-holder.result c.from_residual-in_err-holder.ensures.1 in
    let n =
    module_slots_looked_at c.args.layout.now (byte_at (g.P.ProcessMemory.seen c.args.process.now).pieces) c.args.modules
    c.args.module_name.now c.args.type_name.now in
    let count =
    dict_counts c.args.layout.now c.args.modules c.args.module_name.now c.args.type_name.now
    c.in_ok-dict.ensures.answer in
    rw p.1 (reads_next _ _ c.in_ok-dict.ensures.answer
    (reads_halt (4 * n) p.0 _ c.in_err-holder.ensures.answer (ap names_fault p.2) (omega (arith, count))) (omega arith))

pub returns-clause-answer : goal.returns-clause-answer
unfolding module_type_at
returns-clause-answer g c =
    let n =
    module_slots_looked_at c.args.layout.now (byte_at (g.P.ProcessMemory.seen c.args.process.now).pieces) c.args.modules
    c.args.module_name.now c.args.type_name.now in
    let count =
    dict_counts c.args.layout.now c.args.modules c.args.module_name.now c.args.type_name.now
    c.in_ok-dict.ensures.answer in
    let behind =
    search_counts c.args.layout.now c.args.module_name.now slot_limit
    (λ m. module_entry_looked c.args.layout.now m c.args.type_name.now) _ c.in_ok-holder.ensures.answer in
    reads_next _ _ c.in_ok-dict.ensures.answer (reads_next (8 + 4 * n) _ c.in_ok-holder.ensures.answer
    c.module_place.ensures.answer (omega (arith, count, behind))) (omega arith)

pub returns-in_err-dict-clause-most : goal.returns-in_err-dict-clause-most
returns-in_err-dict-clause-most g c =
    looked_at_most c.args.layout.now _ c.args.modules c.args.module_name.now c.args.type_name.now

pub returns-in_err-holder-clause-most : goal.returns-in_err-holder-clause-most
returns-in_err-holder-clause-most g c =
    looked_at_most c.args.layout.now _ c.args.modules c.args.module_name.now c.args.type_name.now

pub returns-clause-most : goal.returns-clause-most
returns-clause-most g c =
    looked_at_most c.args.layout.now _ c.args.modules c.args.module_name.now c.args.type_name.now
