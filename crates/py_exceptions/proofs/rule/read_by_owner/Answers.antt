use Rattle.std.proofs.Common.{arith, ap, refl}
use Rattle.process_memory.proofs.Reading.{reading_gives, reading_none}
use Rattle.py_exceptions.specs.Rules.{rule_by_class}
use Rattle.py_exceptions.proofs.Tells.{reading_and, told_as}
use Rattle.py_exceptions.proofs.rule.read_by_owner.Goals as goal

pub returns-in-None : goal.returns-in-None
returns-in-None g c = rw c.in-None.is (reading_none 16417 _ _ (λ m. refl))

pub returns-in_ok-class-in-Some : goal.returns-in_ok-class-in-Some
returns-in_ok-class-in-Some g c = rw c.in-Some.is (reading_gives 16417 _
    (reading_and c.in_ok-class-in-Some.ensures c.read_by_class.ensures) (omega arith)
    (λ m h. told_as _ _ _ h.1 (ap (rule_by_class c.args.layout.now c.args.places.now m c.args.at) h.0)))
