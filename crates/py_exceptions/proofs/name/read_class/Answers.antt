use Rattle.std.proofs.Common.{arith, sym, ap, ◌∙◌}
use Rattle.process_memory.proofs.Reading.{reading_gives}
use Rattle.py_exceptions.specs.ClassNames.{class_at, class_by_flags}
use Rattle.py_exceptions.proofs.Tells.{reading_and, told_as}
use Rattle.py_exceptions.proofs.name.read_class.Goals as goal

pub returns-in-None : goal.returns-in-None
unfolding class_at
returns-in-None g c = reading_gives 16393 _ c.in_ok-flags.ensures (omega arith)
    (λ m h. ap (class_by_flags c.args.layout.now c.args.places.now m c.args.class) (sym c.in-None.is ∙ h))

pub returns-in-Some : goal.returns-in-Some
unfolding class_at
returns-in-Some g c = reading_gives 16393 _ (reading_and c.in_ok-flags.ensures c.read_by_flags.ensures) (omega arith)
    (λ m h. told_as _ _ _ h.1 (ap (class_by_flags c.args.layout.now c.args.places.now m c.args.class)
    (sym c.in-Some.is ∙ h.0)))
