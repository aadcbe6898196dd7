use Rattle.std.proofs.Common.{sym}
use Rattle.std.proofs.lemmas.List.{drop_all, take_rest}
use Rattle.py_heap.specs.Names.{most_names}
use Rattle.py_heap.proofs.names.rest_of.Goals as goal

pub returns-then-classes-le-MOST_NAMES : goal.returns-then-classes-le-MOST_NAMES
returns-then-classes-le-MOST_NAMES c = sym (drop_all most_names c.args.classes.now c.if-classes-le-MOST_NAMES.true)

pub returns : goal.returns
returns c = take_rest c.args.classes.now most_names
