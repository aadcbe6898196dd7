use Rattle.std.proofs.Common.{◌+◌, ◌≤◌, ap, subst, sym, arith}
use Rattle.py_fields.proofs.Fields.{frame_fits}
use Rattle.object_builder.specs.Objects.{Write, len_of}
use Rattle.memory_builder.proofs.FrameInside.{entry_inside, len-instr}
use Rattle.memory_builder.proofs.frames.add_record.Goals as goal

pub add_object-requires-clause-inside : goal.add_object-requires-clause-inside
add_object-requires-clause-inside c =
    let l = c.args.layout.now in
    let f = frame_fits c.requires.sound in
    let len = c.frame_len.ensures.value in
    let instr = ap len_of c.instr_value.ensures in (
      omega (arith, f.code, len),
      (
        omega (arith, f.back, len),
        (
          omega (arith, f.instr, len, instr, len-instr l.lasti (c.args.code + c.from.result) c.args.frame.now.offset),
          (
            subst (λ (w : Write). w.at + len_of w.value ≤ c.frame_len.result) (sym c.optional_write.ensures)
                (entry_inside l.frame.entry c.frame_len.result l.frame.size f.entry (omega (arith, len))),
            (omega (arith, len, c.requires.slots), tt),
          ),
        ),
      ),
    )
