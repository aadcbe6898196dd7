use Rattle.std.proofs.Common.{arith, refl}
use Rattle.process_memory.proofs.Reading.{reading_gives, reading_none}
use Rattle.py_exceptions.specs.Rules.{translate_at}
use Rattle.py_exceptions.proofs.rule.read_translate.Goals as goal

pub returns-in-None : goal.returns-in-None
unfolding translate_at
returns-in-None g c = rw c.in-None.is (reading_none 13 _ _ (λ m. refl))

pub returns-in_ok-invalid-in-Some : goal.returns-in_ok-invalid-in-Some
unfolding translate_at
returns-in_ok-invalid-in-Some g c =
    rw c.in-Some.is (reading_gives 13 _ c.in_ok-invalid-in-Some.ensures (omega arith) (λ m h. rw h refl))
