use Rattle.std.proofs.Common.{◌∙◌, ap, option_map, nat_cmp, refl}
use Rattle.std.specs.BTreeMap.{get}
use Rattle.serde_json.specs.View.{view}
use Rattle.py_reprs.specs.Trees.{tree_of}
use Rattle.repr_json.specs.Shown.{text_in, data_in, type_in}
use Rattle.repr_json.proofs.Kept.{mapped, same_test}
use Rattle.repr_json.proofs.NoFloat.{no_float}
use Rattle.repr_json.proofs.shown.ShownValues.keep_json.Goals as goal

pub returns : goal.returns
unfolding text_in data_in type_in
returns c = record {
  tree = view c.in_ok-tree.tree;
  is_json = c.in_ok-tree.ensures;
  no_float = no_float (tree_of c.args.value.now) (view c.in_ok-tree.tree) c.in_ok-tree.ensures;
  trees = λ a. ap (λ o. option_map view o) (c.in_ok-insert.ensures.updates.0 a)
      ∙ mapped view _ _ c.in_ok-tree.tree (get nat_cmp c.args.self.now.trees a) (same_test c.args.addr a);
  texts = λ a. refl;
  types = λ a. refl;
}
