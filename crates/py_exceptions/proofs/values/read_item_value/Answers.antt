use Rattle.std.proofs.Common.{arith, sym, ap, ◌∙◌}
use Rattle.process_memory.proofs.Reading.{reading_gives}
use Rattle.py_exceptions.specs.ValueLists.{item_value_at}
use Rattle.py_exceptions.specs.Values.{value_by}
use Rattle.py_exceptions.proofs.Tells.{reading_and, told_as}
use Rattle.py_exceptions.proofs.values.read_item_value.Goals as goal

pub returns-in-None : goal.returns-in-None
unfolding item_value_at
returns-in-None g c = reading_gives 6 _ c.in_ok-word.ensures (omega arith)
    (λ m h. ap (value_by c.args.layout.now m) (sym c.in-None.is ∙ h))

pub returns-in-Some : goal.returns-in-Some
unfolding item_value_at
returns-in-Some g c = reading_gives 6 _ (reading_and c.in_ok-word.ensures c.read_value.ensures) (omega arith)
    (λ m h. told_as _ _ _ h.1 (ap (value_by c.args.layout.now m) (sym c.in-Some.is ∙ h.0)))
