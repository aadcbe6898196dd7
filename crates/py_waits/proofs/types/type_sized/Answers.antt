use Rattle.std.proofs.Common.{arith, refl}
use Rattle.process_memory.proofs.Reading.{reads_end, reads_within}
use Rattle.py_builtins.proofs.Consulted.{consulting_short}
use Rattle.type_places.specs.ModuleTypes.{module_type_at}
use Rattle.py_waits.proofs.KnownTypes.{reads_type}
use Rattle.py_waits.proofs.types.type_sized.Goals as goal

pub returns-in-None : goal.returns-in-None
returns-in-None g c = rw c.in-None.is (reads_end 262154 refl)

pub returns-in-Some : goal.returns-in-Some
returns-in-Some g c =
    let a = c.args in
    rw c.in-Some.is (reads_type
    (λ m. module_type_at a.layout.now a.fields.now m a.modules a.holder.now a.name.now c.in-Some.size)
    c.known_type.ensures
    (reads_within 262154 (consulting_short c.module_type.ensures.answer) (omega (arith, c.module_type.ensures.most))))
