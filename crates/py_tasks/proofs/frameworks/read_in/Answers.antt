use Rattle.std.proofs.Common.{◌∙◌, ap, arith, sym}
use Rattle.std.specs.Prelude.{Some}
use Rattle.std.proofs.lemmas.Result.{err_from_is_err_and}
use Rattle.process_memory.proofs.Reading.{reading_here, reads_end, reads_halt, reads_next}
use Rattle.py_builtins.proofs.Consulted.{consulting_short}
use Rattle.py_names.specs.NamesError.{names_fault}
use Rattle.instance_dicts.specs.declared.forms.DictForm.TheVariants.{Pointer}
use Rattle.instance_dicts.specs.declared.forms.InstanceDict.TheVariants.{Dict}
use Rattle.task_sets.proofs.Few.{dict_few}
use Rattle.py_tasks.specs.Frameworks.{frameworks_in, frameworks_of}
use Rattle.py_tasks.proofs.frameworks.read_in.Goals as goal

pub returns-in_err-told : goal.returns-in_err-told
unfolding frameworks_in
returns-in_err-told g c =
    let p = err_from_is_err_and c.from_residual.result c.from_residual.ensures.1 in
    rw p.1 (reads_halt 262147 p.0 _ (consulting_short c.in_err-told.ensures) p.2.0 (omega arith))

pub returns-in_err-list : goal.returns-in_err-list
unfolding frameworks_in
returns-in_err-list g c =
    let p = err_from_is_err_and c.from_residual-in_err-list.result c.from_residual-in_err-list.ensures.1 in
    let few = dict_few c.args.layout.now _ Pointer (Dict c.args.modules) 65536 _ (reading_here
    c.in_ok-told.ensures).is in
    rw p.1 (reads_next 262147 _ (consulting_short c.in_ok-told.ensures)
    (reads_halt 131072 p.0 _ (rw c.deref.ensures.value at c.in_err-list.ensures) (ap names_fault p.2) (omega
    (arith, few))) (omega arith))

pub returns : goal.returns
unfolding frameworks_in
returns g c =
    let few = dict_few c.args.layout.now _ Pointer (Dict c.args.modules) 65536 _ (reading_here
    c.in_ok-told.ensures).is in
    reads_next 262147 _ (consulting_short c.in_ok-told.ensures)
    (reads_next {k = 0} 131072 _ (rw c.deref.ensures.value at c.in_ok-list.ensures)
    (reads_end 0 (sym (ap (λ x. Some x) (c.frameworks_of.ensures ∙ ap (λ xs. frameworks_of xs)
    c.deref-2.ensures.value)))) (omega (arith, few))) (omega arith)
