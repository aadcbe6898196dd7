use Rattle.std.proofs.Common.{arith, refl}
use Rattle.process_memory.proofs.Reading.{reads_end, reads_same, reads_within}
use Rattle.instance_dicts.proofs.HeldSteps.{plain_none, plain_behind, plain_end}
use Rattle.instance_dicts.proofs.plain.plain_dict.Goals as goal

pub returns-then-distance-eq0 : goal.returns-then-distance-eq0
returns-then-distance-eq0 g c =
    reads_same _ _ (λ m. plain_none c.args.fields.now m c.args.addr c.args.class c.args.distance (omega arith))
    (reads_end 4 refl)

pub returns-then-distance-lt-NEGATIVE : goal.returns-then-distance-lt-NEGATIVE
returns-then-distance-lt-NEGATIVE g c =
    reads_same _ _ (λ m. plain_behind c.args.fields.now m c.args.addr c.args.class c.args.distance (omega arith)
    (omega arith))
    (reads_within 4 c.named_dict.ensures (omega arith))

pub returns : goal.returns
returns g c =
    reads_same _ _ (λ m. plain_end c.args.fields.now m c.args.addr c.args.class c.args.distance _ (omega arith)
    (omega arith))
    c.from_end.ensures
