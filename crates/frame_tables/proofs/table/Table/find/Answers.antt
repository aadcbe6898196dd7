use Rattle.std.proofs.Common.{subst}
use Rattle.frame_tables.specs.Tables.{Finds}
use Rattle.frame_tables.proofs.Laws.{finds_once, none_found}
use Rattle.frame_tables.proofs.table.Table.find.Goals as goal

pub returns-clause-only : goal.returns-clause-only
returns-clause-only c = λ ascends other is. finds_once c.args.self.now c.args.address other c.look_up.result ascends is
    c.look_up.ensures.right

pub returns-clause-none : goal.returns-clause-none
returns-clause-none c = λ tidy none.
    none_found c.args.self.now c.args.address
    (subst (Finds c.args.self.now c.args.address) none c.look_up.ensures.right) tidy
