use Rattle.std.proofs.Common.{nat_cmp}
use Rattle.std.specs.BTreeMap.{get}
use Rattle.local_values.proofs.Named.{name_kept}
use Rattle.local_values.proofs.types.keep_name.Goals as goal

pub returns : goal.returns
returns c = λ a.
    name_kept c.args.addr a c.args.name (get nat_cmp c.args.names.now a) _ (c.in_ok-insert.ensures.updates.0 a)
