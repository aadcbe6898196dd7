use Rattle.std.proofs.Common.{ap}
use Rattle.process_memory.proofs.Reading.{reads_known, reads_same}
use Rattle.py_builtins.specs.Dicts.{dict_slots, dict_by}
use Rattle.py_builtins.proofs.keys.read_dict.Goals as goal

pub returns-in-Some-clause-answer : goal.returns-in-Some-clause-answer
unfolding dict_slots
returns-in-Some-clause-answer g c =
    reads_same _ _ (λ m. ap (dict_by c.args.layout.now m c.args.addr) c.in-Some.is) c.read_dict_record.ensures.answer

pub returns-in-None-clause-answer : goal.returns-in-None-clause-answer
unfolding dict_slots
returns-in-None-clause-answer g c =
    reads_known 2 _ _ (λ m. record { is = ap (dict_by c.args.layout.now m c.args.addr) c.in-None.is })
