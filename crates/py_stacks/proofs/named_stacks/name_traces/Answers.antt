use Rattle.std.proofs.Common.{arith, ap, get_or, List, ℕ}
use Rattle.std.specs.Prelude.{Option}
use Rattle.py_stacks.specs.NamedStacks.{by_name, name_in}
use Rattle.py_stacks.specs.Threads.{trace_of}
use Rattle.py_stacks.proofs.Marks.{marked_more}
use Rattle.py_stacks.proofs.named_stacks.name_traces.Goals as goal

pub loop-trace-preserved : goal.loop-trace-preserved
loop-trace-preserved c = marked_more (by_name (name_in c.args.names.now)) c.deref_mut-trace-items.result.now c.loop-trace.trace-items c.loop-trace.trace-index _ c.trace-item.result (omega arith) c.loop-trace.invariant (ap (λ (n : Option (List ℕ)). record (trace_of (get_or c.loop-trace.trace-items c.loop-trace.trace-index c.trace-item.result)) { thread_name = n }) c.in_ok-trace.ensures)
