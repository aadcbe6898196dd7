use Rattle.std.proofs.Common.{ap}
use Rattle.process_memory.proofs.Reading.{reads_known, reads_same}
use Rattle.instance_dicts.specs.Attributes.{headed_by, headed_slots}
use Rattle.instance_dicts.proofs.attributes.headed_slots.Goals as goal

pub returns-in-None-clause-answer : goal.returns-in-None-clause-answer
unfolding headed_slots
returns-in-None-clause-answer g c =
    reads_known 3 _ _ (λ m. record { is = ap (headed_by c.args.layout.now m c.args.addr) c.in-None.is })

pub returns-in-Some-clause-answer : goal.returns-in-Some-clause-answer
unfolding headed_slots
returns-in-Some-clause-answer g c =
    reads_same _ _ (λ m. ap (headed_by c.args.layout.now m c.args.addr) c.in-Some.is) c.headed_by.ensures.answer
