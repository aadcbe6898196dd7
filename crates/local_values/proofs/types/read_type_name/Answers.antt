use Rattle.std.proofs.Common.{arith, ap, sym, subst}
use Rattle.std.specs.Prelude.{◌≡◌, ◌+◌, IfOk}
use Rattle.process_memory.specs.Memory.{word_at}
use Rattle.process_memory.specs.Seen.{FaultIs, read_fault}
use Rattle.process_memory.proofs.Reading.{reading_gives, reading_short, reading_then}
use Rattle.local_values.specs.Types.{class_name_if, type_name_at}
use Rattle.local_values.proofs.types.read_type_name.Goals as goal

pub returns-in-Ok : goal.returns-in-Ok
unfolding type_name_at
returns-in-Ok g c =
    reading_gives _ _
    (reading_then (λ m. IfOk c.read_class_name.result
    (λ name. name ≡ type_name_at c.args.layout.now c.args.types.now m c.args.addr))
    (reading_short c.in-Ok.ensures.answer) c.read_class_name.ensures
    (λ m word h. subst (λ found. IfOk c.read_class_name.result
    (λ name. name ≡ class_name_if c.args.layout.now c.args.types.now m found)) (sym word.is) h))
    (omega arith) (λ m h. h)

pub returns-in-Err-Unreadable : goal.returns-in-Err-Unreadable
unfolding type_name_at
returns-in-Err-Unreadable g c =
    reading_gives _ _ (reading_short c.in-Err-Unreadable.ensures.answer) (omega arith)
    (λ m word. sym (ap (class_name_if c.args.layout.now c.args.types.now m)
    (subst (λ e. FaultIs (word_at m (c.args.addr + c.args.layout.now.object.klass)) (read_fault e))
    c.in-Err-Unreadable.field-0-is word.is)))
