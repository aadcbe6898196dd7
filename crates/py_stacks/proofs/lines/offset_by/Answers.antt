use Rattle.std.proofs.Common.{◌≡◌, ◌∙◌, pos, ◌*ℤ◌, to_z, of_z, arith, ap, length}
use Rattle.std.specs.Int.{w32, w128, cast_signed}
use Rattle.std.proofs.lemmas.Int.{ints}
use Rattle.elf64_core.specs.Fields.{u32_in}
use Rattle.py_fields.proofs.Fields.{frame_fits}
use Rattle.py_stacks.proofs.lines.offset_by.Goals as goal

pub u32_in-requires : goal.u32_in-requires
u32_in-requires c =
    let fits = rw c.in-Bytes.is at (frame_fits c.requires.sound).instr in
    omega (arith, fits, c.requires.whole.frame, ap length c.deref.ensures.value)

pub u32_in-requires-in-Units : goal.u32_in-requires-in-Units
u32_in-requires-in-Units c =
    let fits = rw c.in-Units.is at (frame_fits c.requires.sound).instr in
    omega (arith, fits, c.requires.whole.frame, ap length c.deref-in-Units.ensures.value)

pub u64_in-requires : goal.u64_in-requires
u64_in-requires c =
    let fits = rw c.in-Pointer.is at (frame_fits c.requires.sound).instr in
    omega (arith, fits, c.requires.whole.frame, ap length c.deref-in-Pointer.ensures.value)

pub returns-in-Units : goal.returns-in-Units
returns-in-Units c =
    let number : c.cast_signed-in-Units.result ≡ cast_signed w32 (u32_in c.args.records.now.frame.items c.args.layout.now.frame.instr) =
    c.cast_signed-in-Units.ensures ∙ ap (cast_signed w32) (c.u32_in-in-Units.ensures ∙ ap (λ b. u32_in b c.args.layout.now.frame.instr) c.deref-in-Units.ensures.value) in
    let twice : to_z w128 (of_z w128 (pos 2 *ℤ to_z w128 (of_z w128 c.from-in-Units.result))) ≡ pos 2 *ℤ c.cast_signed-in-Units.result = omega (arith, ints) in
    rw c.in-Units.is (twice ∙ ap (λ z. pos 2 *ℤ z) number)
