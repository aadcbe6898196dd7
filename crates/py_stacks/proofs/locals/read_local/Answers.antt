use Rattle.std.proofs.Common.{sym, arith, ap, length}
use Rattle.std.proofs.lemmas.Result.{err_from_is_err_and}
use Rattle.process_memory.proofs.Reading.{reads_next, reads_halt, reads_end}
use Rattle.py_fields.proofs.Fields.{code_fits}
use Rattle.py_stacks.specs.StackError.{stack_fault}
use Rattle.py_stacks.specs.Locals.{local_at}
use Rattle.py_builtins.specs.Consulted.IsWidth.{Word}
use Rattle.py_builtins.proofs.Consulted.{consults_field}
use Rattle.py_stacks.proofs.locals.read_local.Goals as goal

pub u64_in-names_at-requires : goal.u64_in-names_at-requires
u64_in-names_at-requires g c = omega (arith, (code_fits c.requires.sound).varnames, c.requires.whole.code, ap length c.deref.ensures.value)

pub returns-in_err-name_at : goal.returns-in_err-name_at
unfolding local_at
returns-in_err-name_at g c =
    let p = err_from_is_err_and c.from_residual.result c.from_residual.ensures.1 in
    let first = consults_field c.args.layout.now Word (rw (c.u64_in-names_at.ensures, c.deref.ensures.value) at c.in_err-name_at.ensures.answer) in
    rw p.1 (reads_halt 4 p.0 _ first p.2 (omega arith))

pub returns-in_err-name : goal.returns-in_err-name
unfolding local_at
returns-in_err-name g c =
    let p = err_from_is_err_and c.from_residual-in_err-name.result c.from_residual-in_err-name.ensures.1 in
    let first = consults_field c.args.layout.now Word (rw (c.u64_in-names_at.ensures, c.deref.ensures.value) at c.in_ok-name_at.ensures.answer) in
    rw p.1 (reads_next 4 _ first (reads_halt 3 p.0 _ c.in_err-name.ensures (ap stack_fault p.2) (omega arith)) (omega arith))

pub returns-in_err-slot : goal.returns-in_err-slot
unfolding local_at
returns-in_err-slot g c =
    let p = err_from_is_err_and c.from_residual-in_err-slot.result c.from_residual-in_err-slot.ensures.1 in
    let first = consults_field c.args.layout.now Word (rw (c.u64_in-names_at.ensures, c.deref.ensures.value) at c.in_ok-name_at.ensures.answer) in
    rw p.1 (reads_next 4 _ first (reads_next 3 _ c.in_ok-name.ensures (reads_halt 1 p.0 _ (consults_field c.args.layout.now Word c.in_err-slot.ensures.answer) p.2 (omega arith)) (omega arith)) (omega arith))

pub returns : goal.returns
unfolding local_at
returns g c =
    let first = consults_field c.args.layout.now Word (rw (c.u64_in-names_at.ensures, c.deref.ensures.value) at c.in_ok-name_at.ensures.answer) in
    reads_next 4 _ first (reads_next 3 _ c.in_ok-name.ensures (reads_next 1 _ (consults_field c.args.layout.now Word c.in_ok-slot.ensures.answer) (reads_end 0 (sym c.local_by.ensures)) (omega arith)) (omega arith)) (omega arith)
