use Rattle.std.proofs.Common.{◌≡◌, ◌∙◌, sym, subst, ap, map, List, arith}
use Rattle.std.specs.Prelude.{None}
use Rattle.image_builder.specs.Generated.{each, thread_of, generated}
use Rattle.memory_builder.specs.Validity.{IsValidProgram}
use Rattle.memory_builder.specs.Mirror.{program_thread}
use Rattle.memory_builder.specs.Program.{Thread, Program}
use Rattle.image_builder.proofs.GeneratedValid.{generated_valid}
use Rattle.image_builder.proofs.Each.{each_none, one_more}
use Rattle.image_builder.proofs.seeded.generate.Goals as goal

pub loop-thread-init : goal.loop-thread-init
loop-thread-init c = ap (map program_thread) c.new-threads.ensures.items ∙ sym (each_none (thread_of c.args.seed))

pub loop-thread-preserved : goal.loop-thread-preserved
loop-thread-preserved c =
    one_more program_thread (thread_of c.args.seed) c.loop-thread.thread c.loop-thread.threads.items
    c.push.new.self.items c.in_ok-thread_of.field-0
    c.in_ok-push.ensures.items c.loop-thread.invariant c.in_ok-thread_of.ensures

abbrev with_threads : List Thread → Program
with_threads threads = record { threads = threads; owner = None }

pub returns-clause-same : goal.returns-clause-same
unfolding generated
returns-clause-same c =
    let all : c.loop-thread.thread ≡ 256 = omega (arith, c.loop-thread-test.false, c.loop-thread.auto.thread-end) in
    ap with_threads (c.loop-thread.invariant ∙ ap (each (thread_of c.args.seed)) all)

pub returns-clause-valid : goal.returns-clause-valid
returns-clause-valid c = λ family. subst (λ p. IsValidProgram family p) (sym (returns-clause-same c))
    (generated_valid family c.args.seed)
