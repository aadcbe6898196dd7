use Rattle.std.proofs.Common.{◌≡◌, ◌∙◌, ap, sym, option_map, string_bytes, rules, Option, Some, None, Bor, String, Global, refl, List, ℕ}
use Rattle.std.specs.Prelude.{option_copied}
use Rattle.repr_json.specs.Shown.{text_in}
use Rattle.repr_json.proofs.shown.ShownValues.text_at.Goals as goal

copied : (r : Option (Bor (String Global))) → option_map (λ x. string_bytes x.now) r ≡ option_map string_bytes (option_copied r)
copied None = refl
copied (Some x) = refl

pub returns : goal.returns
unfolding text_in
returns c = copied c.get.result ∙ ap (λ o. option_map string_bytes o) c.get.ensures.value
