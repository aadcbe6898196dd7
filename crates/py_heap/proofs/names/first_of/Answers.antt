use Rattle.std.proofs.Common.{sym, arith}
use Rattle.std.proofs.lemmas.List.{take_all, length-take-le}
use Rattle.py_heap.specs.Names.{most_names}
use Rattle.py_heap.proofs.names.first_of.Goals as goal

pub returns-then-classes-le-MOST_NAMES-clause-is : goal.returns-then-classes-le-MOST_NAMES-clause-is
returns-then-classes-le-MOST_NAMES-clause-is c =
    sym (take_all most_names c.args.classes.now c.if-classes-le-MOST_NAMES.true)

pub slice_bounds-result-end : goal.slice_bounds-result-end
slice_bounds-result-end c =
    sym (length-take-le most_names c.args.classes.now (omega (arith, c.if-classes-le-MOST_NAMES.false)))

pub returns-clause-few : goal.returns-clause-few
returns-clause-few c =
    let same = length-take-le most_names c.args.classes.now (omega (arith, c.if-classes-le-MOST_NAMES.false)) in
    omega (arith, same)
