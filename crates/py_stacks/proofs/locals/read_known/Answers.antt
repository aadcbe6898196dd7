use Rattle.std.proofs.Common.{arith, ap, length}
use Rattle.std.proofs.Math.Nat.{le_refl}
use Rattle.std.proofs.lemmas.Result.{err_from_is_err_and}
use Rattle.process_memory.proofs.Reading.{reads_next, reads_halt, reads_known}
use Rattle.py_fields.proofs.Fields.{code_fits}
use Rattle.py_stacks.specs.StackError.{stack_fault}
use Rattle.py_stacks.specs.Locals.{count_of, locals_at}
use Rattle.py_stacks.specs.Records.{member_of}
use Rattle.py_stacks.proofs.LocalSteps.{locals_budget, locals_costs}
use Rattle.py_builtins.specs.Consulted.IsRecordSize.{Tuple}
use Rattle.py_builtins.proofs.Consulted.{consults_record}
use Rattle.py_stacks.proofs.locals.read_known.Goals as goal

pub u64_in-names_at-requires : goal.u64_in-names_at-requires
u64_in-names_at-requires g c = omega (arith, (code_fits c.requires.sound).varnames, c.requires.whole.code, ap length c.deref.ensures.value)

pub returns-in_err-count : goal.returns-in_err-count
unfolding locals_at
returns-in_err-count g c =
    let p = err_from_is_err_and c.from_residual.result c.from_residual.ensures.1 in
    rw p.1 (reads_halt _ p.0 _ (reads_known 0 (λ m. count_of c.args.layout.now (member_of c.args.records.now)) _ (λ m. c.in_err-count.ensures.answer)) (ap stack_fault p.2) (omega arith))

pub returns-in_err-_names : goal.returns-in_err-_names
unfolding locals_at
returns-in_err-_names g c =
    let p = err_from_is_err_and c.from_residual-in_err-_names.result c.from_residual-in_err-_names.ensures.1 in
    let names = consults_record c.args.layout.now Tuple (rw (c.u64_in-names_at.ensures, c.deref.ensures.value) at c.in_err-_names.ensures.answer) in
    rw p.1 (reads_next _ _ (reads_known {fault = stack_fault} 0 (λ m. count_of c.args.layout.now (member_of c.args.records.now)) _ (λ m. c.in_ok-count.ensures.answer)) (reads_halt 1 p.0 _ names p.2 (le_refl 1)) (locals_costs c.args.layout.now (member_of c.args.records.now)))

pub returns : goal.returns
unfolding locals_at
returns g c =
    let names = consults_record c.args.layout.now Tuple (rw (c.u64_in-names_at.ensures, c.deref.ensures.value) at c.in_ok-_names.ensures.answer) in
    reads_next _ _ (reads_known {fault = stack_fault} 0 (λ m. count_of c.args.layout.now (member_of c.args.records.now)) _ (λ m. c.in_ok-count.ensures.answer))
    (reads_next _ _ names c.read_locals_each.ensures (le_refl _))
    (locals_budget c.args.layout.now (member_of c.args.records.now) c.in_ok-count.count c.in_ok-count.ensures.answer.is)
