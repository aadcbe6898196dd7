use Rattle.std.proofs.Common.{arith}
use Rattle.process_memory.proofs.Reading.{reads_known, word_outside}
use Rattle.py_builtins.proofs.DictSteps.{before_within, before_outside}
use Rattle.py_builtins.proofs.managed.word_before.Goals as goal

pub returns-then-distance-addr-clause-answer : goal.returns-then-distance-addr-clause-answer
returns-then-distance-addr-clause-answer g c =
    rw (before_within c.args.addr c.args.distance (omega arith)) c.word.ensures.answer

pub returns-clause-answer : goal.returns-clause-answer
returns-clause-answer g c =
    reads_known 1 _ _ (λ m. rw (before_outside c.args.addr c.args.distance (omega arith)) (word_outside m _ (omega arith)))
