use Rattle.process_memory.proofs.Reading.{reading_gives}
use Rattle.std.proofs.Math.Nat.{le_refl}
use Rattle.py_fronts.proofs.ReportLaws.{threads_agree}
use Rattle.py_fronts.proofs.ThreadsLaws.{threads_right, threads_only}
use Rattle.py_fronts.proofs.ReadLimits.{threads_within}
use Rattle.process_memory.specs.Memory.{byte_at}
use Rattle.std.proofs.Common.{arith}
use Rattle.py_fronts.proofs.threads.get_threads_front.Goals as goal

pub returns-clause-right : goal.returns-clause-right
returns-clause-right g c =
    reading_gives _ _ c.walk_threads.ensures.answer (le_refl _)
    (λ m a. threads_right c.args.asked c.args.layout.now m c.args.limit c.args.left.now c.args.interpreter
    c.args.head c.walk_threads.result a)

pub returns-clause-only : goal.returns-clause-only
returns-clause-only g c =
    reading_gives _ _ c.walk_threads.ensures.answer (le_refl _)
    (λ m a shown h. threads_only c.args.asked c.args.layout.now m c.args.limit c.args.left.now c.args.interpreter
    c.args.head shown c.walk_threads.result a h)

pub returns-clause-most : goal.returns-clause-most
returns-clause-most g c =
    omega (
      arith,
      c.walk_threads.ensures.answer.cost,
      threads_within c.args.asked c.args.layout.now
          (byte_at (g.P.ProcessMemory.seen c.args.process.now).pieces) c.args.limit c.args.left.now c.args.interpreter
          c.args.head,
    )

pub returns-clause-report : goal.returns-clause-report
returns-clause-report g c =
    reading_gives _ _ c.walk_threads.ensures.answer (le_refl _)
    (λ m a. threads_agree c.args.asked c.args.layout.now m c.args.limit c.args.left.now c.args.interpreter
    c.args.head c.walk_threads.result a)
