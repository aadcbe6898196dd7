use Rattle.std.proofs.Common.{arith, ap, length}
use Rattle.py_fields.proofs.Fields.{code_fits}
use Rattle.py_stacks.proofs.locals.is_argument.Goals as goal

pub u32_in-requires : goal.u32_in-requires
u32_in-requires c = omega (arith, (code_fits c.requires.sound).argcount, c.requires.whole.code, ap length c.deref.ensures.value)
