use Rattle.std.proofs.Common.{ap, arith, refl}
use Rattle.std.proofs.lemmas.Result.{err_from_is_err_and}
use Rattle.process_memory.proofs.Reading.{reads_end, reads_halt, reads_next}
use Rattle.py_names.specs.NamesError.{names_fault}
use Rattle.task_sets.specs.Sets.{led_at}
use Rattle.task_sets.proofs.sets.read_led.Goals as goal

pub returns-in-None : goal.returns-in-None
unfolding led_at
returns-in-None g c = rw c.in-None.is (reads_end 1 refl)

pub returns-in-Plain : goal.returns-in-Plain
unfolding led_at
returns-in-Plain g c = rw (c.in-Some.is, c.in-Plain.is) (reads_end 1 refl)

pub returns-in_err-object-in-Weak : goal.returns-in_err-object-in-Weak
unfolding led_at
returns-in_err-object-in-Weak g c =
    let p = err_from_is_err_and c.from_residual.result c.from_residual.ensures.1 in
    rw (c.in-Some.is, c.in-Weak.is, p.1) (reads_halt 1 p.0 _ c.in_err-object-in-Weak.ensures (ap names_fault p.2)
    (omega arith))

pub returns-in_ok-object-in-Weak : goal.returns-in_ok-object-in-Weak
unfolding led_at
returns-in_ok-object-in-Weak g c =
    rw (c.in-Some.is, c.in-Weak.is) (reads_next {k = 0} 1 _ c.in_ok-object-in-Weak.ensures (reads_end 0 refl)
    (omega arith))
