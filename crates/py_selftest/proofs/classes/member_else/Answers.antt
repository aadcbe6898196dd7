use Rattle.std.proofs.Common.{ap, refl}
use Rattle.process_memory.proofs.Reading.{reads_end, reads_same}
use Rattle.py_selftest.specs.Classes.{member_else, member_named}
use Rattle.py_selftest.proofs.Keeping.{reads_kept}
use Rattle.py_selftest.proofs.classes.member_else.Goals as goal

pub returns-in-Some : goal.returns-in-Some
returns-in-Some g c = reads_same _ _
    (λ m. ap (λ o. member_else c.args.layout.now m o c.args.holder c.args.field c.args.name.now) c.in-Some.is)
    (reads_end 4 refl)

pub returns-in-None : goal.returns-in-None
returns-in-None g c = reads_same _ _
    (λ m. ap (λ o. member_else c.args.layout.now m o c.args.holder c.args.field c.args.name.now) c.in-None.is)
    (reads_kept (λ m. member_named c.args.layout.now m c.args.holder c.args.field c.args.name.now) c.kept.ensures
    c.member_named.ensures)
