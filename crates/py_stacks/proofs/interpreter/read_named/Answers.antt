use Rattle.std.proofs.Common.{arith, ap, refl, length}
use Rattle.std.proofs.lemmas.Result.{err_from_is_err_and}
use Rattle.process_memory.proofs.Reading.{reads_next, reads_halt, reads_end}
use Rattle.py_fields.proofs.Fields.{thread_fits}
use Rattle.py_stacks.specs.StackError.{stack_fault}
use Rattle.py_stacks.specs.Interpreter.{interpreter_named_by}
use Rattle.py_builtins.specs.Consulted.IsRecordSize.{Thread}
use Rattle.py_builtins.proofs.Consulted.{consults_record}
use Rattle.py_stacks.proofs.interpreter.read_named.Goals as goal

pub u64_in-requires : goal.u64_in-requires
u64_in-requires g c = omega (arith, (thread_fits c.requires.sound).interp, c.in_ok-read_bytes.ensures.whole, ap length c.deref.ensures.value)

pub returns-in_err-read_bytes : goal.returns-in_err-read_bytes
unfolding interpreter_named_by
returns-in_err-read_bytes g c =
    let p = err_from_is_err_and c.from_residual.result c.from_residual.ensures.1 in
    rw p.1 (reads_halt 1 p.0 _ (consults_record c.args.layout.now Thread c.in_err-read_bytes.ensures.answer) (ap stack_fault p.2) (omega arith))

pub returns : goal.returns
unfolding interpreter_named_by
returns g c = reads_next 1 _ (consults_record c.args.layout.now Thread c.in_ok-read_bytes.ensures.answer) (reads_end 0 (rw (c.u64_in.ensures, c.deref.ensures.value) refl)) (omega arith)
