use Rattle.std.proofs.Common.{ap, refl}
use Rattle.process_memory.proofs.Reading.{reads_end, reads_same}
use Rattle.py_selftest.specs.Classes.{frame_else}
use Rattle.py_selftest.proofs.classes.frame_else.Goals as goal

pub returns : goal.returns
returns g c = reads_same _ _
    (λ m. ap (frame_else c.args.layout.now m c.args.known c.args.frame) c.if-is_object.false) (reads_end 3 refl)
