use Rattle.std.proofs.Common.{ap, arith}
use Rattle.std.proofs.lemmas.Result.{err_from_is_err_and}
use Rattle.process_memory.specs.Seen.{read_fault}
use Rattle.py_waits.proofs.Firsts.{looking_done, looking_init, looking_more, looking_stop}
use Rattle.py_waits.proofs.frames.in_frame.Goals as goal

pub loop-number-init : goal.loop-number-init
loop-number-init g c =
    looking_init c.args.layout.now c.args.places.now c.args.at c.args.frame c.args.before _

pub returns-in_err-found : goal.returns-in_err-found
returns-in_err-found g c =
    let p = err_from_is_err_and c.from_residual.result c.from_residual.ensures.1 in
    rw p.1 (looking_stop c.args.layout.now c.args.places.now c.args.at c.args.frame p.0 c.loop-number.invariant
    (omega arith) c.in_err-found.ensures (ap read_fault p.2))

pub loop-number-preserved : goal.loop-number-preserved
loop-number-preserved g c =
    looking_more c.args.layout.now c.args.places.now c.args.at c.args.frame c.in_ok-found.found
    c.loop-number.invariant (omega arith) c.in_ok-found.ensures

pub returns : goal.returns
returns g c =
    looking_done c.args.layout.now c.args.places.now c.args.at c.args.frame c.loop-number.invariant (omega arith)
    (omega arith)
