use Rattle.std.proofs.Common.{ap, arith, refl}
use Rattle.std.proofs.lemmas.Result.{err_from_is_err_and}
use Rattle.process_memory.proofs.Reading.{reads_end, reads_halt, reads_next}
use Rattle.py_names.specs.NamesError.{names_fault}
use Rattle.py_tasks.specs.Chains.{member_at}
use Rattle.py_tasks.proofs.chain.read_member.Goals as goal

pub returns-in_err-kind : goal.returns-in_err-kind
unfolding member_at
returns-in_err-kind g c =
    let p = err_from_is_err_and c.from_residual.result c.from_residual.ensures.1 in
    rw p.1 (reads_halt 10 p.0 _ c.in_err-kind.ensures (ap names_fault p.2) (omega arith))

pub returns-in_err-frame : goal.returns-in_err-frame
unfolding member_at
returns-in_err-frame g c =
    let p = err_from_is_err_and c.from_residual-in_err-frame.result c.from_residual-in_err-frame.ensures.1 in
    rw p.1 (reads_next 10 _ c.in_ok-kind.ensures (reads_halt 9 p.0 _ c.in_err-frame.ensures (ap names_fault p.2)
    (omega arith)) (omega arith))

pub returns : goal.returns
unfolding member_at
returns g c = (reads_next 10 _ c.in_ok-kind.ensures (reads_next 9 _ c.in_ok-frame.ensures (reads_end 0 refl)
    (omega arith)) (omega arith))
