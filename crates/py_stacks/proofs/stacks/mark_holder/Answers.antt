use Rattle.std.proofs.Common.{refl, arith}
use Rattle.py_stacks.specs.Stacks.{by_holder}
use Rattle.py_stacks.proofs.Marks.{marked_more}
use Rattle.py_stacks.proofs.stacks.mark_holder.Goals as goal

pub loop-trace-preserved : goal.loop-trace-preserved
loop-trace-preserved c = marked_more (by_holder c.args.holder_id) c.deref_mut-trace-items.result.now c.loop-trace.trace-items c.loop-trace.trace-index _ c.trace-item.result (omega arith) c.loop-trace.invariant refl
