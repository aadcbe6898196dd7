use Rattle.std.proofs.Common.{arith, get_or, length, take, ◌<◌}
use Rattle.std.proofs.lemmas.List.{length-take-le, take_all, take_more}
use Rattle.std.proofs.lemmas.Result.{err_from_is_err_and}
use Rattle.thread_names.proofs.NameSteps.{naming_init, naming_lost, naming_more}
use Rattle.thread_names.proofs.names.named_each.Goals as goal

pub loop-id-init : goal.loop-id-init
loop-id-init g c = rw c.new-told.ensures.items (naming_init c.args.layout.now c.args.rule.now c.args.threads.now _)

pub returns-in_err-thread : goal.returns-in_err-thread
returns-in_err-thread g c =
    let p = err_from_is_err_and c.from_residual.result c.from_residual.ensures.1 in
    let here : length (take c.loop-id.id-index c.args.ids.now) < length c.args.ids.now =
    omega (arith, length-take-le c.loop-id.id-index c.args.ids.now (omega arith)) in
    rw p.1 (naming_lost (length c.args.ids.now) c.loop-id.invariant here c.in_err-thread.ensures)

pub returns-in_err-push : goal.returns-in_err-push
returns-in_err-push g c =
    let p = err_from_is_err_and c.from_residual-in_err-push.result c.from_residual-in_err-push.ensures.1 in
    let here : length (take c.loop-id.id-index c.args.ids.now) < length c.args.ids.now =
    omega (arith, length-take-le c.loop-id.id-index c.args.ids.now (omega arith)) in
    rw p.1 (naming_lost (length c.args.ids.now) c.loop-id.invariant here c.in_ok-thread.ensures)

pub loop-id-preserved : goal.loop-id-preserved
loop-id-preserved g c =
    rw (take_more c.args.ids.now c.loop-id.id-index 0 c.loop-id-test.true, c.in_ok-push.ensures.items)
    (naming_more (get_or c.args.ids.now c.loop-id.id-index 0) c.in_ok-thread.thread c.loop-id.invariant
    c.in_ok-thread.ensures)

pub returns : goal.returns
returns g c =
    let all = take_all c.loop-id.id-index c.args.ids.now c.loop-id-test.false in
    let reading = rw all at c.loop-id.invariant in
    reading.reading
