use Rattle.std.proofs.Common.{ap}
use Rattle.process_memory.proofs.Reading.{reads_known, reads_same}
use Rattle.py_builtins.specs.Dicts.{keys_slots, keys_by}
use Rattle.py_builtins.proofs.keys.read_keys.Goals as goal

pub returns-in-Some-clause-answer : goal.returns-in-Some-clause-answer
unfolding keys_slots
returns-in-Some-clause-answer g c =
    let l = c.args.layout.now in
    reads_same _ _ (λ m. ap (keys_by l.dicts m c.args.addr c.args.values) c.in-Some.is) c.read_keys_record.ensures.answer

pub returns-in-None-clause-answer : goal.returns-in-None-clause-answer
unfolding keys_slots
returns-in-None-clause-answer g c =
    let l = c.args.layout.now in
    reads_known 1 _ _ (λ m. record { is = ap (keys_by l.dicts m c.args.addr c.args.values) c.in-None.is })
