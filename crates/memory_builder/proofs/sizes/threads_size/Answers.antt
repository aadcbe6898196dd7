use Rattle.std.proofs.Common.{◌∙◌, ap, map}
use Rattle.std.specs.List.{sum_by}
use Rattle.memory_builder.specs.Mirror.{program_in, program_thread}
use Rattle.memory_builder.specs.Sizes.{capped, thread_size}
use Rattle.py_stacks.specs.Lines.{family_of}
use Rattle.memory_builder.proofs.Earlier.{there}
use Rattle.memory_builder.proofs.Firsts.{valid_in}
use Rattle.memory_builder.proofs.Sums.{all_capped, more_capped}
use Rattle.memory_builder.proofs.sizes.threads_size.Goals as goal

pub thread_size-requires-clause-valid : goal.thread_size-requires-clause-valid
thread_size-requires-clause-valid c =
    let i = c.loop-thread.thread-index in
    let is = there c.args.program.now.threads.items c.deref-thread-items.result.now i c.thread-item.result
    c.deref-thread-items.ensures.value c.loop-thread-test.true c.thread-item.is in
    λ k. (valid_in (family_of c.args.layout.now.lines) (program_in c.args.program.now) i
    (program_thread c.thread-item.result) is k (c.requires.valid i k)).call

pub loop-thread-preserved : goal.loop-thread-preserved
loop-thread-preserved c =
    more_capped (thread_size c.args.layout.now) program_thread c.deref-thread-items.result.now
    c.loop-thread.thread-index c.thread-item.result c.loop-thread.total
    c.in_ok-thread_size.field-0 c.saturating_add-total.result c.loop-thread-test.true c.thread-item.is
    c.loop-thread.invariant c.in_ok-thread_size.ensures c.saturating_add-total.ensures

pub returns : goal.returns
returns c =
    all_capped (thread_size c.args.layout.now) program_thread c.deref-thread-items.result.now c.loop-thread.thread-index
    c.loop-thread.total c.loop-thread-test.false c.loop-thread.invariant
    ∙ ap (λ xs. capped (sum_by (thread_size c.args.layout.now) (map program_thread xs)))
    c.deref-thread-items.ensures.value
