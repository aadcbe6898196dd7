use Rattle.std.proofs.Common.{ap}
use Rattle.std.specs.Prelude.{option_map}
use Rattle.py_reprs.specs.Trees.{tree_of}
use Rattle.local_values.specs.Values.{value_in}
use Rattle.local_values.proofs.values.LocalValues.get.Goals as goal

pub returns : goal.returns
unfolding value_in
returns c = ap (option_map tree_of) c.get.ensures.value
