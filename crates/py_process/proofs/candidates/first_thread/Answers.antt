use Rattle.std.proofs.Common.{arith, ap}
use Rattle.process_memory.proofs.Reading.{reading_gives}
use Rattle.py_stacks.specs.Interpreter.{threads_head}
use Rattle.py_process.specs.Candidates.{candidate_of}
use Rattle.py_process.proofs.Tests.{thread_refused}
use Rattle.py_builtins.proofs.Consulted.{consulting_short}
use Rattle.py_process.proofs.candidates.first_thread.Goals as goal

pub returns-in-Ok : goal.returns-in-Ok
returns-in-Ok g c = reading_gives 1 _ (consulting_short c.in-Ok.ensures.answer) (omega arith) (λ m a. ap candidate_of a.is)

pub returns-in-Err : goal.returns-in-Err
returns-in-Err g c =
    reading_gives 1 _ (consulting_short c.in-Err.ensures.answer) (omega arith) (λ m a. thread_refused (threads_head c.args.layout.now m c.args.addr) c.in-Err.error c.no_thread.result a c.no_thread.ensures)
