use Rattle.std.proofs.Common.{arith}
use Rattle.py_fields.proofs.ObjectFields.{keys_fits}
use Rattle.py_builtins.proofs.DictSteps.{some_holds}
use Rattle.py_builtins.proofs.keys.index_in.Goals as goal

pub stated_index-requires : goal.stated_index-requires
stated_index-requires c =
    some_holds c.args.keys.now.slots (λ at e. omega (arith, (keys_fits c.requires.sound c.args.keys.now c.requires.keys).slots at e, c.requires.object))

pub sized_index-requires-clause-log2 : goal.sized_index-requires-clause-log2
sized_index-requires-clause-log2 c =
    some_holds c.args.keys.now.log2 (λ at e. omega (arith, (keys_fits c.requires.sound c.args.keys.now c.requires.keys).log2 at e, c.requires.object))

pub sized_index-requires-clause-kind : goal.sized_index-requires-clause-kind
sized_index-requires-clause-kind c =
    some_holds c.args.keys.now.kind (λ at e. omega (arith, (keys_fits c.requires.sound c.args.keys.now c.requires.keys).kind at e, c.requires.object))
