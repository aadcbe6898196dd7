use Rattle.std.proofs.Common.{ap, arith}
use Rattle.std.proofs.lemmas.Result.{err_from_is_err_and}
use Rattle.process_memory.specs.Seen.{read_fault}
use Rattle.py_selftest.proofs.Seeking.{seeking_init, seeking_more, seeking_found, seeking_ended, seeking_stop}
use Rattle.py_selftest.proofs.Seeking.{seeking_done}
use Rattle.py_selftest.proofs.members.member_in.Goals as goal

pub loop-number-init : goal.loop-number-init
loop-number-init g c = seeking_init c.args.name.now c.args.table _

pub returns-in_err-read_step : goal.returns-in_err-read_step
returns-in_err-read_step g c =
    let p = err_from_is_err_and c.from_residual.result c.from_residual.ensures.1 in
    rw p.1 (seeking_stop p.0 c.loop-number.invariant (omega arith) c.in_err-read_step.ensures (ap read_fault p.2))

pub returns-in-End : goal.returns-in-End
returns-in-End g c =
    seeking_ended c.loop-number.invariant (omega arith) (rw c.in-End.is at c.in_ok-read_step.ensures)

pub returns-in-Found : goal.returns-in-Found
returns-in-Found g c = seeking_found c.in-Found.member c.loop-number.invariant (omega arith)
    (rw c.in-Found.is at c.in_ok-read_step.ensures)

pub loop-number-preserved : goal.loop-number-preserved
loop-number-preserved g c =
    seeking_more c.loop-number.invariant (omega arith) (rw c.in-Other.is at c.in_ok-read_step.ensures)

pub returns : goal.returns
returns g c = seeking_done c.loop-number.invariant (omega arith)
