use Rattle.std.proofs.Common.{arith, refl}
use Rattle.process_memory.proofs.Reading.{reading_gives, reading_none}
use Rattle.py_exceptions.specs.Rules.{group_at}
use Rattle.py_exceptions.proofs.rule.read_group.Goals as goal

pub returns-in-None : goal.returns-in-None
unfolding group_at
returns-in-None g c = rw c.in-None.is (reading_none 6 _ _ (λ m. refl))

pub returns-in_ok-text-in-Some : goal.returns-in_ok-text-in-Some
unfolding group_at
returns-in_ok-text-in-Some g c =
    rw c.in-Some.is (reading_gives 6 _ c.in_ok-text-in-Some.ensures (omega arith) (λ m h. rw h refl))
