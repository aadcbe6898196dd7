use Rattle.std.proofs.Common.{sym}
use Rattle.std.proofs.lemmas.List.{drop_all, take_rest}
use Rattle.heap_texts.proofs.firsts.rest_of.Goals as goal

pub returns-then-classes-most : goal.returns-then-classes-most
returns-then-classes-most c = sym (drop_all c.args.most c.args.classes.now c.if-classes-most.true)

pub returns : goal.returns
returns c = take_rest c.args.classes.now c.args.most
