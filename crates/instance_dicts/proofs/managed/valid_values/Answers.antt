use Rattle.std.proofs.Common.{arith, refl}
use Rattle.process_memory.proofs.Reading.{reads_end, reads_same}
use Rattle.instance_dicts.proofs.HeldSteps.{valid_none, valid_some}
use Rattle.instance_dicts.proofs.managed.valid_values.Goals as goal

pub returns-then-valid_byte-eq0 : goal.returns-then-valid_byte-eq0
returns-then-valid_byte-eq0 g c =
    reads_same _ _ (λ m. valid_none c.args.fields.now m c.args.class c.args.place c.args.header
    (omega (arith, c.valid_byte.ensures))) (reads_end 1 refl)

pub returns : goal.returns
returns g c =
    reads_same _ _ (λ m. valid_some c.args.fields.now m c.args.class c.args.place c.args.header
    (omega (arith, c.valid_byte.ensures))) c.values_with.ensures
