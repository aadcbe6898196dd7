use Rattle.std.proofs.Common.{◌*◌, ◌+◌, ap, arith}
use Rattle.std.proofs.lemmas.Result.{err_from_is_err_and}
use Rattle.process_memory.specs.Seen.{read_fault}
use Rattle.py_selftest.specs.Walking.{met_shown, step_at}
use Rattle.py_selftest.proofs.Folding.{chain_ends, chain_goes, chain_rest, folding_done, folding_init, folding_more}
use Rattle.py_selftest.proofs.Folding.{folding_stop}
use Rattle.py_selftest.proofs.walking.chain.Goals as goal

pub loop-number-init : goal.loop-number-init
loop-number-init g c = folding_init (chain_rest c.args.layout.now c.args.release) (met_shown c.args.begun) _

pub returns-in_err-met : goal.returns-in_err-met
returns-in_err-met g c =
    let p = err_from_is_err_and c.from_residual.result c.from_residual.ensures.1 in
    rw p.1 (folding_stop 720 (λ m. step_at c.args.layout.now m c.args.release) p.0 c.loop-number.invariant
    (chain_goes c.args.layout.now c.args.release c.loop-number.number (omega arith)) c.in_err-met.ensures
    (ap read_fault p.2) (omega arith))

pub loop-number-preserved : goal.loop-number-preserved
loop-number-preserved g c =
    folding_more (45 * (c.loop-number.number + 1)) (λ m. step_at c.args.layout.now m c.args.release)
    (met_shown c.in_ok-met.met) c.loop-number.invariant
    (chain_goes c.args.layout.now c.args.release c.loop-number.number (omega arith)) c.in_ok-met.ensures (omega arith)

pub returns : goal.returns
returns g c = folding_done 720 c.loop-number.invariant
    (λ m. chain_ends c.args.layout.now c.args.release c.loop-number.number (omega arith) m (met_shown
    c.loop-number.met))
    (omega arith)
