use Rattle.std.proofs.Common.{◌∙◌, ap}
use Rattle.repr_json.specs.Shown.{known_type, type_in}
use Rattle.repr_json.proofs.shown.ShownValues.type_at.Goals as goal

pub returns-in-Some : goal.returns-in-Some
unfolding type_in
returns-in-Some c = c.as_ref.ensures.value ∙ ap known_type c.in-Some.ensures.value

pub returns-in-None : goal.returns-in-None
unfolding type_in
returns-in-None c = ap known_type c.in-None.ensures.value
