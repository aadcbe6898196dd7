use Rattle.std.proofs.Common.{arith, ap}
use Rattle.process_memory.proofs.Reading.{reading_gives}
use Rattle.py_exceptions.specs.Rules.{rule_at, rule_by_owner}
use Rattle.py_exceptions.proofs.Tells.{reading_and, told_as}
use Rattle.py_exceptions.proofs.rule.read_rule.Goals as goal

pub returns : goal.returns
unfolding rule_at
returns g c = reading_gives 16546 _ (reading_and c.in_ok-owner.ensures c.read_by_owner.ensures) (omega arith)
    (λ m h. told_as _ _ _ h.1
    (ap (rule_by_owner c.args.layout.now c.args.classes.now c.args.places.now m c.args.at) h.0))
