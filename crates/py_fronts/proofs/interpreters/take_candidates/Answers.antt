use Rattle.std.proofs.Common.{arith, ap, drop, get_or, sym, take-append-drop, ◌+◌, ◌++◌, ◌∙◌}
use Rattle.std.proofs.lemmas.List.{take_all, take_more}
use Rattle.std.proofs.lemmas.Result.{err_from_is_err_and}
use Rattle.std.specs.Prelude.{false}
use Rattle.py_fronts.proofs.FindSteps.{taking_done, taking_init, taking_lost, taking_more}
use Rattle.py_fronts.proofs.interpreters.take_candidates.Goals as goal

pub loop-addr-init : goal.loop-addr-init
loop-addr-init g c = taking_init false (g.M.ContainsAddr.contains c.args.maps.now) c.args.layout.now c.args.finds.now _

pub returns-in_err-take_candidate : goal.returns-in_err-take_candidate
returns-in_err-take_candidate g c =
    let p = err_from_is_err_and c.from_residual.result c.from_residual.ensures.1 in
    let parts = sym (take-append-drop (c.loop-addr.addr-index + 1) c.args.candidates.now) ∙ ap (λ xs. xs ++ drop (c.loop-addr.addr-index + 1) c.args.candidates.now)
    (take_more c.args.candidates.now c.loop-addr.addr-index 0 c.loop-addr-test.true) in
    rw p.1 (taking_lost p.0 c.in_err-take_candidate.field-0.0 (get_or c.args.candidates.now c.loop-addr.addr-index 0) _ _ c.loop-addr.invariant parts c.in_err-take_candidate.ensures p.2)

pub loop-addr-preserved : goal.loop-addr-preserved
loop-addr-preserved g c =
    rw (take_more c.args.candidates.now c.loop-addr.addr-index 0 c.loop-addr-test.true)
    (taking_more c.take_candidate.new.finds (get_or c.args.candidates.now c.loop-addr.addr-index 0) c.loop-addr.invariant c.in_ok-take_candidate.ensures)

pub returns : goal.returns
returns g c = taking_done c.args.candidates.now c.loop-addr.invariant (take_all c.loop-addr.addr-index c.args.candidates.now (omega arith))
