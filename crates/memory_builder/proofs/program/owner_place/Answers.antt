use Rattle.std.proofs.Common.{◌≡◌, ◌∙◌, ◌+◌, ◌<◌, length, take, ap, refl, subst, sym, arith}
use Rattle.std.specs.List.{AllByRecursion, sum_by}
use Rattle.py_fields.proofs.Fields.{some_is}
use Rattle.py_stacks.specs.Lines.{family_of}
use Rattle.memory_builder.specs.Chains.{addresses_from}
use Rattle.memory_builder.specs.Laid.{place_or_none}
use Rattle.memory_builder.specs.Mirror.{program_in, program_thread}
use Rattle.memory_builder.specs.Program.{Thread}
use Rattle.memory_builder.specs.Sizes.{thread_size}
use Rattle.memory_builder.specs.Validity.{IsValidFrame}
use Rattle.memory_builder.proofs.Growing.{address_at, exact, here_fits, here_more}
use Rattle.memory_builder.proofs.Lists.{all_somewhere}
use Rattle.memory_builder.proofs.Owners.{all_taken, sum_taken, taken_all}
use Rattle.memory_builder.proofs.Sums.{item_at}
use Rattle.memory_builder.proofs.program.owner_place.Goals as goal

pub returns-in_default : goal.returns-in_default
returns-in_default c =
    subst (λ o. 0 ≡ place_or_none (addresses_from (thread_size c.args.layout.now) c.args.first
    (program_in c.args.program.now).threads) o) (sym c.in_default.is) refl

pub thread_size-requires-clause-valid : goal.thread_size-requires-clause-valid
thread_size-requires-clause-valid c =
    let valid = IsValidFrame (family_of c.args.layout.now.lines) in
    all_somewhere valid (program_thread c.thread-item.result).frames
    (item_at (λ (t : Thread). AllByRecursion (IsValidFrame (family_of c.args.layout.now.lines)) t.frames) program_thread
    (take c.in-Some.owner c.deref.result.now) c.loop-thread.thread-index c.thread-item.result
    c.loop-thread-test.true c.thread-item.is
    (all_taken (λ (t : Thread). AllByRecursion (IsValidFrame (family_of c.args.layout.now.lines)) t.frames)
    program_thread c.in-Some.owner c.deref.result.now c.args.program.now.threads.items c.deref.ensures.value
    c.requires.valid))

pub overflow_add-here : goal.overflow_add-here
overflow_add-here c =
    let l = c.args.layout.now in
    let all = sum_taken (thread_size l) program_thread c.in-Some.owner c.deref.result.now
    c.args.program.now.threads.items c.deref.ensures.value in
    let fits = here_fits (thread_size l) program_thread (take c.in-Some.owner c.deref.result.now)
    c.loop-thread.thread-index c.thread-item.result c.args.first c.loop-thread.here
    c.loop-thread-test.true c.thread-item.is c.loop-thread.invariant (omega (arith, all, c.requires.fits)) in
    omega (arith, fits, c.in_ok-here.ensures)

pub loop-thread-preserved : goal.loop-thread-preserved
loop-thread-preserved c =
    let l = c.args.layout.now in
    let all = sum_taken (thread_size l) program_thread c.in-Some.owner c.deref.result.now
    c.args.program.now.threads.items c.deref.ensures.value in
    let fits = here_fits (thread_size l) program_thread (take c.in-Some.owner c.deref.result.now)
    c.loop-thread.thread-index c.thread-item.result c.args.first c.loop-thread.here
    c.loop-thread-test.true c.thread-item.is c.loop-thread.invariant (omega (arith, all, c.requires.fits)) in
    let one = exact c.in_ok-here.field-0 (thread_size l (program_thread c.thread-item.result)) c.in_ok-here.ensures
    (omega (arith, fits)) in
    here_more (thread_size l) program_thread (take c.in-Some.owner c.deref.result.now) c.loop-thread.thread-index
    c.thread-item.result c.args.first c.loop-thread.here c.in_ok-here.field-0
    (c.loop-thread.here + c.in_ok-here.field-0) c.loop-thread-test.true c.thread-item.is c.loop-thread.invariant one
    refl

pub returns : goal.returns
returns c =
    let l = c.args.layout.now in
    let xs = (program_in c.args.program.now).threads in
    let owner = c.in-Some.owner in
    let small : owner < length xs = some_is c.args.program.now.owner
    (λ k. k < length xs) owner c.requires.owner c.in-Some.is in
    let end = taken_all program_thread owner c.deref.result.now c.args.program.now.threads.items
    c.loop-thread.thread-index c.deref.ensures.value c.loop-thread-test.false in
    let here : c.loop-thread.here ≡ c.args.first + sum_by (thread_size l) (take owner xs) = c.loop-thread.invariant
    ∙ ap (λ ys. c.args.first + sum_by (thread_size l) ys) end in
    subst (λ o. c.loop-thread.here ≡ place_or_none (addresses_from (thread_size l) c.args.first xs) o)
    (sym c.in-Some.is)
    (here ∙ sym (address_at (thread_size l) c.args.first xs owner small))
