use Rattle.std.proofs.Common.{arith, ap, length}
use Rattle.std.proofs.lemmas.Result.{err_from_is_err_and}
use Rattle.process_memory.proofs.Reading.{reading_gives, reading_then}
use Rattle.py_fields.proofs.Fields.{frame_fits}
use Rattle.py_stacks.specs.Records.{member_of}
use Rattle.py_fronts.proofs.Steps.{lost_then, step_lost, step_to}
use Rattle.py_builtins.proofs.Consulted.{consulting_short}
use Rattle.py_fronts.proofs.members.read_step.Goals as goal

pub returns-in_err-left_out-in-Ok : goal.returns-in_err-left_out-in-Ok
returns-in_err-left_out-in-Ok g c =
    let p = err_from_is_err_and c.from_residual.result c.from_residual.ensures.1 in
    rw p.1 (lost_then 5 (consulting_short c.in-Ok.ensures.answer) c.in_err-left_out-in-Ok.ensures p.2 (omega arith))

pub u64_in-back-requires : goal.u64_in-back-requires
u64_in-back-requires g c = omega (arith, (frame_fits c.requires.sound).back, c.in-Ok.ensures.whole.frame, ap length c.deref.ensures.value)

pub returns-in_ok-left_out-in-Ok : goal.returns-in_ok-left_out-in-Ok
returns-in_ok-left_out-in-Ok g c =
    let back = rw c.deref.ensures.value at c.u64_in-back.ensures in
    reading_gives 5 _ (reading_then _ (consulting_short c.in-Ok.ensures.answer) c.in_ok-left_out-in-Ok.ensures (λ m a b. step_to c.args.layout.now m c.args.at (member_of c.read_records.new.records) c.in_ok-left_out-in-Ok.left_out c.u64_in-back.result a.is b back)) (omega arith) (λ m h. h)

pub returns-in-Err : goal.returns-in-Err
returns-in-Err g c =
    reading_gives 5 _ (consulting_short c.in-Err.ensures.answer) (omega arith) (λ m a. step_lost c.args.layout.now m c.args.at c.in-Err.error c.stop_by.result a.is c.stop_by.ensures)
