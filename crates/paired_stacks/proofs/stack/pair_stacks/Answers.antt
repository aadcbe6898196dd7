use Rattle.std.proofs.Common.{◌∙◌, ◌*◌, arith, length, map}
use Rattle.std.proofs.lemmas.Result.{err_from_is_err_and}
use Rattle.process_memory.proofs.Reading.{reading_gives, reading_none}
use Rattle.native_stacks.specs.Threads.{thread_shown}
use Rattle.paired_stacks.specs.Stacks.{most_of_each}
use Rattle.paired_stacks.specs.Walked.{walked_threads}
use Rattle.paired_stacks.proofs.Once.{only_stacks}
use Rattle.paired_stacks.proofs.stack.pair_stacks.Goals as goal

pub returns-clause-right : goal.returns-clause-right
returns-clause-right g c = rw (c.deref.ensures.value ∙ c.in_ok-threads.ensures) at c.pair_all.ensures

pub returns-clause-only : goal.returns-clause-only
returns-clause-only g c = reading_gives (most_of_each * length c.args.natives.now) _
    (rw (c.deref.ensures.value ∙ c.in_ok-threads.ensures) at c.pair_all.ensures) (omega arith)
    (λ m h other k. only_stacks c.args.layout.now m c.args.end c.args.own (walked_threads c.args.interpreters.now)
    c.args.starts.now (map thread_shown c.args.natives.now) c.pair_all.result other h k)

pub returns-in_err-threads-clause-right : goal.returns-in_err-threads-clause-right
returns-in_err-threads-clause-right g c =
    let p = err_from_is_err_and c.from_residual.result c.from_residual.ensures.1 in
    rw p.1 (reading_none _ _ _ (λ m. tt))

pub returns-in_err-threads-clause-only : goal.returns-in_err-threads-clause-only
returns-in_err-threads-clause-only g c =
    let p = err_from_is_err_and c.from_residual.result c.from_residual.ensures.1 in
    rw p.1 (reading_none _ _ _ (λ m. λ other k. tt))
