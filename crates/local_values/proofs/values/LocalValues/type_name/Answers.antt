use Rattle.std.proofs.Common.{◌∙◌, ap}
use Rattle.local_values.specs.Types.{known_name}
use Rattle.local_values.specs.Values.{type_in}
use Rattle.local_values.proofs.values.LocalValues.type_name.Goals as goal

pub returns-in-Some : goal.returns-in-Some
unfolding type_in
returns-in-Some c = c.as_ref.ensures.value ∙ ap known_name c.in-Some.ensures.value

pub returns-in-None : goal.returns-in-None
unfolding type_in
returns-in-None c = ap known_name c.in-None.ensures.value
