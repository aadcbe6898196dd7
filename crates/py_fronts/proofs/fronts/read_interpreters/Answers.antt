use Rattle.std.proofs.Common.{arith, take-append-drop, drop, get_or, false, refl, sym, ap, ◌∙◌, ◌+◌, ◌++◌}
use Rattle.std.proofs.lemmas.List.{take_all, take_more}
use Rattle.std.proofs.lemmas.Result.{err_from_is_err_and}
use Rattle.py_fronts.specs.declared.interpreters.FoundInterpreter.{FoundInterpreter}
use Rattle.py_fronts.proofs.FrontSteps.{passing_done, passing_init, passing_lost, passing_more}
use Rattle.py_fronts.proofs.fronts.read_interpreters.Goals as goal

pub loop-one-init : goal.loop-one-init
loop-one-init g c = rw c.new-interpreters.ensures.items (passing_init c.args.asked c.args.layout.now c.args.limit 4194304 _)

pub returns-in_err-threads : goal.returns-in_err-threads
returns-in_err-threads g c =
    let p = err_from_is_err_and c.from_residual.result c.from_residual.ensures.1 in
    let none : FoundInterpreter = record { address = 0; head = 0; searched = false } in
    let parts = sym (take-append-drop (c.loop-one.one-index + 1) c.args.found.now) ∙ ap (λ xs. xs ++ drop (c.loop-one.one-index + 1) c.args.found.now)
    (take_more c.args.found.now c.loop-one.one-index none c.loop-one-test.true) in
    rw p.1 (passing_lost p.0 (get_or c.args.found.now c.loop-one.one-index none) _ _ c.loop-one.invariant parts c.in_err-threads.ensures.answer (λ m h. p.2 ∙ h))

pub returns-in_err-push : goal.returns-in_err-push
returns-in_err-push g c =
    let p = err_from_is_err_and c.from_residual-in_err-push.result c.from_residual-in_err-push.ensures.1 in
    let none : FoundInterpreter = record { address = 0; head = 0; searched = false } in
    let parts = sym (take-append-drop (c.loop-one.one-index + 1) c.args.found.now) ∙ ap (λ xs. xs ++ drop (c.loop-one.one-index + 1) c.args.found.now)
    (take_more c.args.found.now c.loop-one.one-index none c.loop-one-test.true) in
    rw p.1 (passing_lost p.0 (get_or c.args.found.now c.loop-one.one-index none) _ _ c.loop-one.invariant parts c.in_ok-threads.ensures.answer (λ m h. p.2))

pub loop-one-preserved : goal.loop-one-preserved
loop-one-preserved g c =
    rw (take_more c.args.found.now c.loop-one.one-index (record { address = 0; head = 0; searched = false }) c.loop-one-test.true, c.in_ok-push.ensures.items)
    (passing_more (get_or c.args.found.now c.loop-one.one-index (record { address = 0; head = 0; searched = false })) _ c.get_threads_front.new.left c.loop-one.invariant c.in_ok-threads.ensures.answer c.in_ok-threads.ensures.left c.in_ok-threads.ensures.fewer refl refl)

pub returns : goal.returns
returns g c = rw (← take_all c.loop-one.one-index c.args.found.now (omega arith)) (passing_done c.loop-one.invariant)
