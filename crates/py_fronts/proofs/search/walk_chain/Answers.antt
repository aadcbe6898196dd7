use Rattle.std.proofs.Common.{arith, ap, length}
use Rattle.std.proofs.lemmas.Result.{err_from_is_err_and}
use Rattle.py_fields.proofs.Fields.{thread_fits}
use Rattle.py_fronts.proofs.HeadSteps.{chaining_broken, chaining_done, chaining_full, chaining_init, chaining_lost}
use Rattle.py_fronts.proofs.HeadSteps.{chaining_more}
use Rattle.py_fronts.proofs.search.walk_chain.Goals as goal

pub loop-at-init : goal.loop-at-init
loop-at-init g c = chaining_init c.args.layout.now c.args.interpreter c.args.head _

pub returns-then-members-eq-THREADS-clause-answer : goal.returns-then-members-eq-THREADS-clause-answer
returns-then-members-eq-THREADS-clause-answer g c = chaining_full c.loop-at.invariant (omega arith) (omega arith)

pub returns-in_err-next-clause-answer : goal.returns-in_err-next-clause-answer
returns-in_err-next-clause-answer g c =
    let p = err_from_is_err_and c.from_residual.result c.from_residual.ensures.1 in
    rw p.1 (chaining_lost p.0 c.in_err-next.field-0.0 c.loop-at.invariant (omega (arith, c.loop-at.invariant.within)) c.in_err-next.ensures.answer p.2)

pub returns-in-Broken-clause-answer : goal.returns-in-Broken-clause-answer
returns-in-Broken-clause-answer g c =
    let thread = rw c.in-Broken.is at c.in_ok-next.ensures.answer in
    chaining_broken c.in-Broken.end c.loop-at.invariant (omega arith) (omega (arith, c.loop-at.invariant.within)) thread

pub u64_in-at-requires : goal.u64_in-at-requires
u64_in-at-requires g c =
    let whole = rw c.in-At.is at c.in_ok-next.ensures.whole in
    omega (arith, (thread_fits c.requires.sound).next, whole, ap length c.deref.ensures.value)

pub loop-at-preserved : goal.loop-at-preserved
loop-at-preserved g c =
    let thread = rw c.in-At.is at c.in_ok-next.ensures.answer in
    let next = rw c.deref.ensures.value at c.u64_in-at.ensures in
    chaining_more c.in-At.thread c.u64_in-at.result c.loop-at.invariant (omega arith) (omega (arith, c.loop-at.invariant.within)) thread next

pub returns-clause-answer : goal.returns-clause-answer
returns-clause-answer g c = chaining_done c.loop-at.invariant (omega arith)
