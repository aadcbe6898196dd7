use Rattle.std.proofs.Common.{arith, refl, ap, length}
use Rattle.std.proofs.Math.Nat.{le_refl}
use Rattle.std.proofs.lemmas.Result.{err_from_is_err_and}
use Rattle.process_memory.proofs.Reading.{reads_next, reads_halt, reads_end}
use Rattle.py_fields.proofs.Fields.{thread_fits}
use Rattle.py_stacks.specs.StackError.{stack_fault}
use Rattle.py_stacks.specs.Threads.{thread_step}
use Rattle.py_stacks.proofs.Costs.{thread_costs, thread_costs_one, thread_budget}
use Rattle.py_builtins.specs.Consulted.IsRecordSize.{Thread}
use Rattle.py_builtins.proofs.Consulted.{consults_record}
use Rattle.py_stacks.proofs.threads.read_trace.Goals as goal

pub first_frame-requires : goal.first_frame-requires
first_frame-requires g c = omega (arith, (thread_fits c.requires.sound).frame, c.in_ok-read_bytes.ensures.whole, ap length c.deref.ensures.value)

pub u64_in-thread_id-requires : goal.u64_in-thread_id-requires
u64_in-thread_id-requires g c = omega (arith, (thread_fits c.requires.sound).id, c.in_ok-read_bytes.ensures.whole, ap length c.deref-2.ensures.value)

pub u64_in-next-requires : goal.u64_in-next-requires
u64_in-next-requires g c = omega (arith, (thread_fits c.requires.sound).next, c.in_ok-read_bytes.ensures.whole, ap length c.deref-3.ensures.value)

pub native_id-os_thread_id-requires : goal.native_id-os_thread_id-requires
native_id-os_thread_id-requires g c = λ place is. omega (arith, (thread_fits c.requires.sound).native_id place is, c.in_ok-read_bytes.ensures.whole, ap length c.deref-4.ensures.value)

pub returns-in_err-read_bytes : goal.returns-in_err-read_bytes
unfolding thread_step
returns-in_err-read_bytes g c =
    let p = err_from_is_err_and c.from_residual.result c.from_residual.ensures.1 in
    rw p.1 (reads_halt _ p.0 _ (consults_record c.args.layout.now Thread c.in_err-read_bytes.ensures.answer) (ap stack_fault p.2) (thread_costs_one _ _ _ _))

pub returns-in_err-first : goal.returns-in_err-first
unfolding thread_step
returns-in_err-first g c =
    let p = err_from_is_err_and c.from_residual-in_err-first.result c.from_residual-in_err-first.ensures.1 in
    let two = rw c.deref.ensures.value at c.in_err-first.ensures.answer in
    rw p.1 (reads_next _ _ (consults_record c.args.layout.now Thread c.in_ok-read_bytes.ensures.answer) (reads_halt 1 p.0 _ two (ap stack_fault p.2) (omega arith)) (thread_costs _ _ _ _))

pub returns-in_err-frames : goal.returns-in_err-frames
unfolding thread_step
returns-in_err-frames g c =
    let p = err_from_is_err_and c.from_residual-in_err-frames.result c.from_residual-in_err-frames.ensures.1 in
    let two = rw c.deref.ensures.value at c.in_ok-first.ensures.answer in
    rw p.1 (reads_next _ _ (consults_record c.args.layout.now Thread c.in_ok-read_bytes.ensures.answer) (reads_next _ _ two (reads_halt _ p.0 _ c.in_err-frames.ensures (ap stack_fault p.2) (le_refl _)) (le_refl _)) (thread_budget c.args.asked c.args.layout.now c.args.at _ _ c.in_ok-read_bytes.ensures.answer two))

pub returns : goal.returns
unfolding thread_step
returns g c =
    let two = rw c.deref.ensures.value at c.in_ok-first.ensures.answer in
    reads_next _ _ (consults_record c.args.layout.now Thread c.in_ok-read_bytes.ensures.answer) (reads_next _ _ two (reads_next _ _ c.in_ok-frames.ensures (reads_end 0 (rw (c.u64_in-next.ensures, c.u64_in-thread_id.ensures, c.native_id-os_thread_id.ensures, c.deref-2.ensures.value, c.deref-3.ensures.value, c.deref-4.ensures.value) refl)) (omega arith)) (le_refl _)) (thread_budget c.args.asked c.args.layout.now c.args.at _ _ c.in_ok-read_bytes.ensures.answer two)
