use Rattle.std.proofs.Common.{◌∙◌, sym, ap}
use Rattle.process_memory.proofs.Reading.{reading_none}
use Rattle.py_census.specs.Sizes.{class_size_at}
use Rattle.py_census.specs.Tallies.{tally_or_new}
use Rattle.py_census.proofs.tallies.tally_at.Goals as goal

pub returns-in-Some : goal.returns-in-Some
returns-in-Some g c = reading_none _ _ _
    (λ m. ap (tally_or_new (class_size_at c.args.layout.now c.args.places.now m c.args.class) c.args.class)
    (sym c.in-Some.is ∙ c.kept_of.ensures))
