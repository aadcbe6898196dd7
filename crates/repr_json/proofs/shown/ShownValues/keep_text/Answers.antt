use Rattle.std.proofs.Common.{◌∙◌, ap, option_map, string_bytes, nat_cmp, refl}
use Rattle.std.specs.BTreeMap.{get}
use Rattle.repr_json.specs.Shown.{text_in, data_in, type_in}
use Rattle.repr_json.proofs.Kept.{mapped, same_test}
use Rattle.repr_json.proofs.shown.ShownValues.keep_text.Goals as goal

pub returns : goal.returns
unfolding text_in data_in type_in
returns c = record {
  text = string_bytes c.in_ok-text.text;
  written = c.in_ok-text.ensures;
  texts = λ a. ap (λ o. option_map string_bytes o) (c.in_ok-insert.ensures.updates.0 a)
      ∙ mapped string_bytes _ _ c.in_ok-text.text (get nat_cmp c.args.self.now.texts a) (same_test c.args.addr a);
  trees = λ a. refl;
  types = λ a. refl;
}
