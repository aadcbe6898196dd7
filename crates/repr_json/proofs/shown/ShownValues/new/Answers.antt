use Rattle.std.proofs.Common.{◌≡◌, ap, option_map, string_bytes}
use Rattle.std.specs.Map.{lookup}
use Rattle.std.specs.BTreeMap.{is_at}
use Rattle.std.specs.Ordering.{nat_cmp}
use Rattle.serde_json.specs.View.{view}
use Rattle.repr_json.specs.Shown.{data_in, known_type, text_in, type_in}
use Rattle.repr_json.proofs.shown.ShownValues.new.Goals as goal

pub returns-clause-texts : goal.returns-clause-texts
unfolding text_in
returns-clause-texts c = λ a. ap (λ es. option_map string_bytes (lookup (is_at (nat_cmp a)) es)) c.new.ensures.empty

pub returns-clause-trees : goal.returns-clause-trees
unfolding data_in
returns-clause-trees c = λ a. ap (λ es. option_map view (lookup (is_at (nat_cmp a)) es)) c.new-2.ensures.empty

pub returns-clause-types : goal.returns-clause-types
unfolding type_in
returns-clause-types c = λ a. ap (λ es. known_type (lookup (is_at (nat_cmp a)) es)) c.new-3.ensures.empty
