use Rattle.std.proofs.Common.{refl, arith, ap, length}
use Rattle.std.proofs.lemmas.Result.{err_from_is_err_and}
use Rattle.process_memory.proofs.Reading.{reads_next, reads_halt, reads_end}
use Rattle.py_fields.proofs.Fields.{frame_fits}
use Rattle.py_stacks.specs.StackError.{stack_fault}
use Rattle.py_stacks.specs.Frames.{records_at}
use Rattle.py_builtins.specs.Consulted.IsRecordSize.{Code, Frame}
use Rattle.py_builtins.proofs.Consulted.{consults_record}
use Rattle.py_stacks.proofs.records.read_records.Goals as goal

pub code_of-code_at-requires-clause-inside : goal.code_of-code_at-requires-clause-inside
code_of-code_at-requires-clause-inside g c = omega (arith, (frame_fits c.requires.sound).code, c.in_ok-read_bytes.ensures.whole, ap length c.deref.ensures.value)

pub returns-in_err-read_bytes-clause-answer : goal.returns-in_err-read_bytes-clause-answer
unfolding records_at
returns-in_err-read_bytes-clause-answer g c =
    let p = err_from_is_err_and c.from_residual.result c.from_residual.ensures.1 in
    rw p.1 (reads_halt 2 p.0 _ (consults_record c.args.layout.now Frame c.in_err-read_bytes.ensures.answer) (ap stack_fault p.2) (omega arith))

pub returns-in_err-read_bytes-2-clause-answer : goal.returns-in_err-read_bytes-2-clause-answer
unfolding records_at
returns-in_err-read_bytes-2-clause-answer g c =
    let p = err_from_is_err_and c.from_residual-in_err-read_bytes-2.result c.from_residual-in_err-read_bytes-2.ensures.1 in
    let two = consults_record c.args.layout.now Code (rw (c.code_of-code_at.ensures, c.deref.ensures.value) at c.in_err-read_bytes-2.ensures.answer) in
    rw p.1 (reads_next 2 _ (consults_record c.args.layout.now Frame c.in_ok-read_bytes.ensures.answer) (reads_halt 1 p.0 _ two (ap stack_fault p.2) (omega arith)) (omega arith))

pub returns-clause-answer : goal.returns-clause-answer
unfolding records_at
returns-clause-answer g c =
    let two = consults_record c.args.layout.now Code (rw (c.code_of-code_at.ensures, c.deref.ensures.value) at c.in_ok-read_bytes-2.ensures.answer) in
    reads_next 2 _ (consults_record c.args.layout.now Frame c.in_ok-read_bytes.ensures.answer) (reads_next 1 _ two (reads_end 0 (rw (c.code_of-code_at.ensures, c.deref.ensures.value) refl)) (omega arith)) (omega arith)
