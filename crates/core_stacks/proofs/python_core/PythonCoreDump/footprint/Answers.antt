use Rattle.core_stacks.specs.Opened.{opened_memory}
use Rattle.core_stacks.specs.Footprints.{traces_with}
use Rattle.py_process.specs.Reports.{StacksSay}
use Rattle.std.proofs.Common.{subst}
use Rattle.core_stacks.specs.Opened.{Opened}
use Rattle.core_stacks.proofs.Settling.{sole_of}
use Rattle.core_stacks.proofs.Left.{footprint_left}
use Rattle.py_process.proofs.StackCauses.{stacks_agree}
use Rattle.core_stacks.proofs.python_core.PythonCoreDump.footprint.Goals as goal

pub returns-clause-right : goal.returns-clause-right
returns-clause-right c =
    subst (λ (o : Opened). StacksSay (opened_memory o) o.finding c.args.config.now (traces_with c.read_footprint.result)) c.self.view_is c.read_footprint.ensures.says

pub returns-clause-only : goal.returns-clause-only
returns-clause-only c =
    let o = c.args.self.now in
    sole_of (StacksSay (opened_memory o) o.finding c.args.config.now) (stacks_agree (opened_memory o) o.finding c.args.config.now)
    (traces_with c.read_footprint.result) (returns-clause-right c)

pub returns-clause-found : goal.returns-clause-found
returns-clause-found c = λ found. footprint_left c.args.self.now c.args.config.now c.read_footprint.result found (returns-clause-right c)
