use Rattle.std.proofs.Common.{ap}
use Rattle.py_fronts.specs.declared.crash.Crash.{Crash}
use Rattle.salvage_report.proofs.pointers.pointer_in.Goals as goal

pub returns : goal.returns
returns c = ap (λ (t : Crash). t.thread_pointer) c.status_thread-thread.ensures
