use Rattle.std.proofs.Common.{arith, ap, length}
use Rattle.py_fields.proofs.Fields.{thread_fits}
use Rattle.py_fronts.proofs.Steps.{other_eq, stray_record}
use Rattle.py_fronts.proofs.thread_front.thread_of.Goals as goal

pub u64_in-named-requires : goal.u64_in-named-requires
u64_in-named-requires c = omega (arith, (thread_fits c.requires.sound).interp, c.requires.whole, ap length c.deref.ensures.value)

pub returns-then-named-interpreter : goal.returns-then-named-interpreter
returns-then-named-interpreter c =
    let named = rw c.deref.ensures.value at c.u64_in-named.ensures in
    stray_record c.args.layout.now c.args.interpreter c.args.thread.items c.u64_in-named.result named (other_eq c.u64_in-named.result c.args.interpreter c.if-named-interpreter.true)
