use Rattle.std.proofs.Common.{arith, refl}
use Rattle.process_memory.proofs.Reading.{reads_end, reads_same}
use Rattle.instance_dicts.proofs.HeldSteps.{embedded_in, embedded_dict, embedded_none}
use Rattle.instance_dicts.proofs.managed.embedded_by.Goals as goal

pub returns-then-dict-ne0 : goal.returns-then-dict-ne0
returns-then-dict-ne0 g c =
    reads_same _ _ (λ m. embedded_dict c.args.fields.now m c.args.addr c.args.class c.args.flags c.args.dict
    (omega arith))
    (reads_end 3 refl)

pub returns-then-flags-ne0 : goal.returns-then-flags-ne0
returns-then-flags-ne0 g c =
    reads_same _ _ (λ m. embedded_in c.args.fields.now m c.args.addr c.args.class c.args.flags c.args.dict (omega arith)
    c.if-flags-ne0.true) c.embedded_values.ensures

pub returns : goal.returns
returns g c =
    reads_same _ _ (λ m. embedded_none c.args.fields.now m c.args.addr c.args.class c.args.flags c.args.dict
    (omega arith)
    c.if-flags-ne0.false) (reads_end 3 refl)
