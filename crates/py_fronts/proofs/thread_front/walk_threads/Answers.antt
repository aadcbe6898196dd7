use Rattle.std.proofs.Common.{arith, refl, ap, length, ◌<◌, ◌∙◌}
use Rattle.std.proofs.lemmas.Result.{err_from_is_err_and}
use Rattle.py_fields.proofs.Fields.{thread_fits}
use Rattle.py_stacks.specs.Threads.{thread_limit}
use Rattle.py_fronts.proofs.ThreadSteps.{threading_broken, threading_done, threading_full, threading_init}
use Rattle.py_fronts.proofs.ThreadSteps.{threading_lost, threading_more, threading_stops}
use Rattle.py_fronts.proofs.thread_front.walk_threads.Goals as goal

pub loop-at-init : goal.loop-at-init
loop-at-init g c = rw c.new-threads.ensures.items (threading_init c.args.asked c.args.layout.now c.args.limit c.args.interpreter c.args.head c.args.left.now _)

pub returns-then-len-eq-THREAD_LIMIT-clause-answer : goal.returns-then-len-eq-THREAD_LIMIT-clause-answer
returns-then-len-eq-THREAD_LIMIT-clause-answer g c = threading_full c.loop-at.invariant (omega arith) (omega (arith, c.loop-at.threads.ok.0))

pub returns-in_err-next-clause-answer : goal.returns-in_err-next-clause-answer
returns-in_err-next-clause-answer g c =
    let p = err_from_is_err_and c.from_residual.result c.from_residual.ensures.1 in
    rw p.1 (threading_stops p.0 c.loop-at.invariant c.in_err-next.ensures.answer (omega arith) (λ m h. p.2 ∙ h))

pub returns-in-Broken-clause-answer : goal.returns-in-Broken-clause-answer
returns-in-Broken-clause-answer g c =
    let below : length c.loop-at.threads.items < thread_limit = omega (arith, c.loop-at.threads.ok.0, c.loop-at.invariant.within) in
    let thread = rw c.in-Broken.is at c.in_ok-next.ensures.answer in
    threading_broken c.in-Broken.end c.loop-at.invariant (omega arith) below thread

pub returns-in_err-front-clause-answer : goal.returns-in_err-front-clause-answer
returns-in_err-front-clause-answer g c =
    let p = err_from_is_err_and c.from_residual-in_err-front.result c.from_residual-in_err-front.ensures.1 in
    let below : length c.loop-at.threads.items < thread_limit = omega (arith, c.loop-at.threads.ok.0, c.loop-at.invariant.within) in
    let thread = rw c.in-At.is at c.in_ok-next.ensures.answer in
    let front = rw c.deref.ensures.value at c.in_err-front.ensures.answer in
    rw p.1 (threading_lost c.in-At.thread.items _ p.0 c.loop-at.invariant (omega arith) below thread front (λ m h. p.2 ∙ h))

pub u64_in-at-requires : goal.u64_in-at-requires
u64_in-at-requires g c =
    let whole = rw c.in-At.is at c.in_ok-next.ensures.whole in
    omega (arith, (thread_fits c.requires.sound).next, whole, ap length c.deref-in-loop-at.ensures.value)

pub returns-in_err-push-clause-answer : goal.returns-in_err-push-clause-answer
returns-in_err-push-clause-answer g c =
    let p = err_from_is_err_and c.from_residual-in_err-push.result c.from_residual-in_err-push.ensures.1 in
    let below : length c.loop-at.threads.items < thread_limit = omega (arith, c.loop-at.threads.ok.0, c.loop-at.invariant.within) in
    let thread = rw c.in-At.is at c.in_ok-next.ensures.answer in
    let front = rw c.deref.ensures.value at c.in_ok-front.ensures.answer in
    rw p.1 (threading_lost c.in-At.thread.items _ p.0 c.loop-at.invariant (omega arith) below thread front (λ m h. p.2))

pub loop-at-preserved : goal.loop-at-preserved
loop-at-preserved g c =
    let below : length c.loop-at.threads.items < thread_limit = omega (arith, c.loop-at.threads.ok.0, c.loop-at.invariant.within) in
    let thread = rw c.in-At.is at c.in_ok-next.ensures.answer in
    let front = rw c.deref.ensures.value at c.in_ok-front.ensures.answer in
    let next = rw c.deref-in-loop-at.ensures.value at c.u64_in-at.ensures in
    rw (c.in_ok-push.ensures.items, next)
    (threading_more c.in_ok-front.front c.in-At.thread.items _ _ c.loop-at.invariant (omega arith) below thread front c.in_ok-front.ensures.few refl)

pub returns-clause-answer : goal.returns-clause-answer
returns-clause-answer g c = threading_done c.loop-at.invariant (omega arith)
