use Rattle.std.proofs.Common.{sym, arith}
use Rattle.std.proofs.lemmas.List.{take_all, length-take-le}
use Rattle.heap_texts.proofs.firsts.first_of.Goals as goal

pub returns-then-classes-most : goal.returns-then-classes-most
returns-then-classes-most c = sym (take_all c.args.most c.args.classes.now c.if-classes-most.true)

pub slice_bounds-result-end : goal.slice_bounds-result-end
slice_bounds-result-end c =
    sym (length-take-le c.args.most c.args.classes.now (omega (arith, c.if-classes-most.false)))
