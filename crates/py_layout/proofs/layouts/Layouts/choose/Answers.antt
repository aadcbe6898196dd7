use Rattle.std.proofs.Common.{rules}
use Rattle.py_layout.proofs.Choosing.{choose_only}
use Rattle.py_layout.proofs.layouts.Layouts.choose.Goals as goal

pub returns-clause-member : goal.returns-clause-member
returns-clause-member c = search rules

pub returns-clause-covers : goal.returns-clause-covers
returns-clause-covers c = search rules

pub returns-clause-only : goal.returns-clause-only
returns-clause-only c =
    choose_only c.find.result c.args.self.now c.args.version.now (rw c.self.view_is at c.self.invariant.apart) (returns-clause-member c) (returns-clause-covers c)
