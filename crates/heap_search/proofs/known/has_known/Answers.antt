use Rattle.std.proofs.Common.{arith, ap, length}
use Rattle.std.proofs.lemmas.Result.{err_from_is_err_and}
use Rattle.py_fields.proofs.Fields.{thread_fits}
use Rattle.heap_search.proofs.KnownSteps.{walking_broken, walking_done, walking_found, walking_full, walking_init}
use Rattle.heap_search.proofs.KnownSteps.{walking_lost, walking_lost_behind, walking_more}
use Rattle.heap_search.proofs.known.has_known.Goals as goal

pub loop-at-init : goal.loop-at-init
loop-at-init g c = walking_init c.args.layout.now c.args.pointers.now c.args.class c.args.interpreter c.args.head _

pub returns-then-met-eq-THREADS : goal.returns-then-met-eq-THREADS
returns-then-met-eq-THREADS g c = walking_full c.loop-at.invariant (omega arith) (omega arith)

pub returns-in_err-next : goal.returns-in_err-next
returns-in_err-next g c =
    let p = err_from_is_err_and c.from_residual.result c.from_residual.ensures.1 in
    rw p.1 (walking_lost p.0 c.in_err-next.field-0.0 c.loop-at.invariant c.in_err-next.ensures.answer p.2)

pub returns-in-Broken : goal.returns-in-Broken
returns-in-Broken g c =
    let thread = rw c.in-Broken.is at c.in_ok-next.ensures.answer in
    walking_broken c.in-Broken.field-0 c.loop-at.invariant (omega arith) (omega (arith, c.loop-at.invariant.within))
    thread

pub returns-in_err-known : goal.returns-in_err-known
returns-in_err-known g c =
    let p = err_from_is_err_and c.from_residual-in_err-known.result c.from_residual-in_err-known.ensures.1 in
    let thread = rw c.in-At.is at c.in_ok-next.ensures.answer in
    rw p.1 (walking_lost_behind p.0 c.in_err-known.field-0.0 c.in-At.thread c.loop-at.invariant (omega arith)
    (omega (arith, c.loop-at.invariant.within)) thread c.in_err-known.ensures p.2)

pub returns-then-known : goal.returns-then-known
returns-then-known g c =
    let thread = rw c.in-At.is at c.in_ok-next.ensures.answer in
    let known = rw c.deref.ensures.value at c.in_ok-known.ensures in
    walking_found c.in-At.thread c.in_ok-known.known c.loop-at.invariant (omega arith)
    (omega (arith, c.loop-at.invariant.within)) thread known c.if-known.true

pub u64_in-at-requires : goal.u64_in-at-requires
u64_in-at-requires g c =
    let whole = rw c.in-At.is at c.in_ok-next.ensures.whole in
    omega (arith, (thread_fits c.requires.sound).next, whole, ap length c.deref-in-loop-at.ensures.value)

pub loop-at-preserved : goal.loop-at-preserved
loop-at-preserved g c =
    let thread = rw c.in-At.is at c.in_ok-next.ensures.answer in
    let known = rw c.deref.ensures.value at c.in_ok-known.ensures in
    let next = rw c.deref-in-loop-at.ensures.value at c.u64_in-at.ensures in
    walking_more c.in-At.thread c.u64_in-at.result c.in_ok-known.known c.loop-at.invariant (omega arith)
    (omega (arith, c.loop-at.invariant.within)) thread known c.if-known.false next

pub returns : goal.returns
returns g c = walking_done c.loop-at.invariant (omega arith)
