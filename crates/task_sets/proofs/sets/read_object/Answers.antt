use Rattle.std.proofs.Common.{arith}
use Rattle.std.proofs.lemmas.Result.{err_from_is_err_and}
use Rattle.process_memory.proofs.Reading.{reading_short, reads_halt, reads_next}
use Rattle.task_sets.specs.Sets.{object_at}
use Rattle.task_sets.proofs.sets.read_object.Goals as goal

pub returns-in_err-key : goal.returns-in_err-key
unfolding object_at
returns-in_err-key g c =
    let p = err_from_is_err_and c.from_residual.result c.from_residual.ensures.1 in
    rw p.1 (reads_halt 3 p.0 _ (reading_short c.in_err-key.ensures.answer) p.2.0 (omega arith))

pub returns-in_err-hash : goal.returns-in_err-hash
unfolding object_at
returns-in_err-hash g c =
    let p = err_from_is_err_and c.from_residual-in_err-hash.result c.from_residual-in_err-hash.ensures.1 in
    rw p.1 (reads_next 3 _ (reading_short c.in_ok-key.ensures.answer) (reads_halt 2 p.0 _ (reading_short
    c.in_err-hash.ensures.answer) p.2.0 (omega arith)) (omega arith))

pub returns : goal.returns
unfolding object_at
returns g c = (reads_next 3 _ (reading_short c.in_ok-key.ensures.answer) (reads_next 2 _ (reading_short
    c.in_ok-hash.ensures.answer) (rw c.member_of-member.ensures at c.read_led.ensures) (omega arith)) (omega arith))
