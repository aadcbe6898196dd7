use Rattle.std.proofs.Common.{◌≡◌, ◌∙◌, ap, option_map, Option, Some, None, Bor, refl}
use Rattle.std.specs.Prelude.{option_copied}
use Rattle.serde_json.specs.View.{view}
use Rattle.serde_json.specs.declared.value.Value.{Value}
use Rattle.repr_json.specs.Shown.{data_in}
use Rattle.repr_json.proofs.shown.ShownValues.tree_at.Goals as goal

copied : (r : Option (Bor Value)) → option_map (λ x. view x.now) r ≡ option_map view (option_copied r)
copied None = refl
copied (Some x) = refl

pub returns : goal.returns
unfolding data_in
returns c = copied c.get.result ∙ ap (λ o. option_map view o) c.get.ensures.value
