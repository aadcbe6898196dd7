use Rattle.std.proofs.Common.{◌∙◌, ap, nat_cmp, refl}
use Rattle.std.specs.BTreeMap.{get}
use Rattle.repr_json.specs.Shown.{data_in, known_type, text_in, type_in}
use Rattle.repr_json.proofs.Kept.{joined, same_test}
use Rattle.repr_json.proofs.shown.ShownValues.keep_type.Goals as goal

pub returns : goal.returns
unfolding text_in data_in type_in
returns c = record {
  types = λ a. ap known_type (c.in_ok-insert.ensures.updates.0 a)
      ∙ joined _ _ c.args.name (get nat_cmp c.args.self.now.types a) (same_test c.args.addr a);
  texts = λ a. refl;
  trees = λ a. refl;
}
