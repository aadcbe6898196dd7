use Rattle.std.proofs.Common.{refl, arith, ap, length}
use Rattle.std.proofs.Math.Nat.{le_refl}
use Rattle.std.proofs.lemmas.Result.{err_from_is_err_and}
use Rattle.process_memory.proofs.Reading.{reads_next, reads_halt, reads_end}
use Rattle.py_fields.proofs.Fields.{frame_fits}
use Rattle.py_stacks.specs.StackError.{stack_fault}
use Rattle.py_stacks.specs.Frames.{frame_step}
use Rattle.py_stacks.proofs.Parts.{member_budget, member_costs, member_costs_two}
use Rattle.py_stacks.proofs.members.read_member.Goals as goal

pub u64_in-back-requires : goal.u64_in-back-requires
u64_in-back-requires g c = omega (arith, (frame_fits c.requires.sound).back, c.in_ok-read_records.ensures.whole.frame, ap length c.deref.ensures.value)

pub returns-in_err-read_records : goal.returns-in_err-read_records
unfolding frame_step
returns-in_err-read_records g c =
    let p = err_from_is_err_and c.from_residual.result c.from_residual.ensures.1 in
    rw p.1 (reads_halt _ p.0 _ c.in_err-read_records.ensures.answer (ap stack_fault p.2) (member_costs_two _ _ _ _ _))

pub returns-in_err-plain : goal.returns-in_err-plain
unfolding frame_step
returns-in_err-plain g c =
    let p = err_from_is_err_and c.from_residual-in_err-plain.result c.from_residual-in_err-plain.ensures.1 in
    rw p.1 (reads_next _ _ c.in_ok-read_records.ensures.answer (reads_halt 4 p.0 _ c.in_err-plain.ensures (ap stack_fault p.2) (le_refl 4)) (member_costs _ _ _ _ _))

pub returns-in_err-part : goal.returns-in_err-part
unfolding frame_step
returns-in_err-part g c =
    let p = err_from_is_err_and c.from_residual-in_err-part.result c.from_residual-in_err-part.ensures.1 in
    rw p.1 (reads_next _ _ c.in_ok-read_records.ensures.answer (reads_next _ _ c.in_ok-plain.ensures (reads_halt _ p.0 _ c.in_err-part.ensures (ap stack_fault p.2) (le_refl _)) (le_refl _)) (member_budget c.args.asked c.args.layout.now c.args.kept c.args.at _ _ c.in_ok-read_records.ensures.answer c.in_ok-plain.ensures))

pub returns : goal.returns
unfolding frame_step
returns g c =
    reads_next _ _ c.in_ok-read_records.ensures.answer (reads_next _ _ c.in_ok-plain.ensures (reads_next _ _ c.in_ok-part.ensures (reads_end 0 (rw (c.u64_in-back.ensures, c.deref.ensures.value) refl)) (omega arith)) (le_refl _)) (member_budget c.args.asked c.args.layout.now c.args.kept c.args.at _ _ c.in_ok-read_records.ensures.answer c.in_ok-plain.ensures)
