use Rattle.std.proofs.Common.{arith, ap, length}
use Rattle.py_fields.proofs.Fields.{frame_fits}
use Rattle.coroutine_frames.proofs.frame.is_unbegun.Goals as goal

pub u32_in-requires : goal.u32_in-requires
u32_in-requires c =
    let fits = rw c.in-Bytes.is at (frame_fits c.requires.sound).instr in
    omega (arith, fits, c.requires.whole.frame, ap length c.deref.ensures.value)

pub u32_in-requires-in-Units : goal.u32_in-requires-in-Units
u32_in-requires-in-Units c =
    let fits = rw c.in-Units.is at (frame_fits c.requires.sound).instr in
    omega (arith, fits, c.requires.whole.frame, ap length c.deref-in-Units.ensures.value)
