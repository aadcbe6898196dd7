use Rattle.std.proofs.Common.{arith}
use Rattle.py_fields.proofs.ObjectFields.{klass_fits}
use Rattle.py_builtins.proofs.types.type_by.Goals as goal

pub u64_in-requires : goal.u64_in-requires
u64_in-requires c = omega (arith, (klass_fits c.requires.sound).flags, c.requires.whole)

pub u64_in-requires-2 : goal.u64_in-requires-2
u64_in-requires-2 c = omega (arith, (klass_fits c.requires.sound).name, c.requires.whole)

pub u64_in-requires-3 : goal.u64_in-requires-3
u64_in-requires-3 c = omega (arith, (klass_fits c.requires.sound).dict_offset, c.requires.whole)
