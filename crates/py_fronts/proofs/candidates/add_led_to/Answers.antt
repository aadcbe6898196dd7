use Rattle.std.proofs.Common.{arith, ap, drop, get_or, sym, take-append-drop, ◌+◌, ◌++◌, ◌∙◌}
use Rattle.std.proofs.lemmas.List.{take_all, take_more}
use Rattle.std.proofs.lemmas.Result.{err_from_is_err_and}
use Rattle.py_fronts.proofs.IdleSteps.{leading_done, leading_full, leading_init, leading_lost, leading_more}
use Rattle.py_fronts.proofs.candidates.add_led_to.Goals as goal

pub loop-word-init : goal.loop-word-init
loop-word-init g c = leading_init c.args.layout.now c.args.candidates.now.items _

pub returns-in_err-add_behind_idle : goal.returns-in_err-add_behind_idle
returns-in_err-add_behind_idle g c =
    let p = err_from_is_err_and c.from_residual-in_err-add_behind_idle.result
    c.from_residual-in_err-add_behind_idle.ensures.1 in
    let parts = sym (take-append-drop (c.loop-word.word-index + 1) c.args.words.now)
    ∙ ap (λ ws. ws ++ drop (c.loop-word.word-index + 1) c.args.words.now)
    (take_more c.args.words.now c.loop-word.word-index 0 c.loop-word-test.true) in
    rw p.1 (leading_lost p.0 c.in_err-add_behind_idle.field-0.0 (get_or c.args.words.now c.loop-word.word-index 0) _ _
    c.loop-word.invariant parts c.in_err-add_behind_idle.ensures p.2)

pub returns-in_err-push : goal.returns-in_err-push
returns-in_err-push g c =
    let p = err_from_is_err_and c.from_residual.result c.from_residual.ensures.1 in
    rw p.1 (leading_full p.0 _ _ c.loop-word.invariant (sym (take-append-drop c.loop-word.word-index c.args.words.now))
    p.2)

pub loop-word-preserved : goal.loop-word-preserved
loop-word-preserved g c =
    rw (take_more c.args.words.now c.loop-word.word-index 0 c.loop-word-test.true)
    (leading_more _ _ (get_or c.args.words.now c.loop-word.word-index 0) c.loop-word.invariant
    c.in_ok-push.ensures.items c.in_ok-add_behind_idle.ensures)

pub returns : goal.returns
returns g c = leading_done c.args.words.now c.loop-word.invariant
    (take_all c.loop-word.word-index c.args.words.now (omega arith))
