use Rattle.std.proofs.Common.{◌≡◌, ap, arith}
use Rattle.std.proofs.lemmas.Result.{err_from_is_err_and}
use Rattle.process_memory.proofs.Reading.{reads_end, reads_halt, reads_next}
use Rattle.py_builtins.specs.ObjectError.{object_fault}
use Rattle.object_reach.specs.Objects.{slot_parts}
use Rattle.object_reach.specs.Objects.PartsSpot.{SlotsAt}
use Rattle.py_builtins.proofs.Consulted.{consulting_short}
use Rattle.object_reach.proofs.parts.read_slots.Goals as goal

pub returns-in_err-cursor : goal.returns-in_err-cursor
unfolding slot_parts
returns-in_err-cursor g c =
    let p = err_from_is_err_and c.from_residual.result c.from_residual.ensures.1 in
    rw p.1 (reads_halt 2 p.0 _ (consulting_short c.in_err-cursor.ensures.answer) (ap object_fault p.2) (omega arith))

pub returns : goal.returns
unfolding slot_parts
returns g c =
    let count : c.in_ok-cursor.cursor.slots.count ≡ c.remaining.result = omega (arith, c.in_ok-cursor.ensures.start) in
    reads_next 2 _ (consulting_short c.in_ok-cursor.ensures.answer) (reads_end 0 (ap (λ n. record { count = n; place = SlotsAt c.in_ok-cursor.cursor.slots }) count)) (omega arith)
