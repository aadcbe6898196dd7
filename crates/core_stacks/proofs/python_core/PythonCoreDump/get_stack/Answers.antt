use Rattle.std.proofs.Common.{◌≡◌, ℕ, refl, subst}
use Rattle.process_memory.specs.Memory.{Memory}
use Rattle.py_process.specs.Reports.{StacksSay, traces_in}
use Rattle.core_stacks.specs.Opened.{Opened, opened_memory}
use Rattle.core_stacks.proofs.Settling.{sole_of}
use Rattle.core_stacks.proofs.Left.{found_left}
use Rattle.py_process.proofs.StackCauses.{stacks_agree}
use Rattle.core_stacks.proofs.Stacks.{over_same}
use Rattle.core_stacks.proofs.python_core.PythonCoreDump.get_stack.Goals as goal

pub returns-clause-equal : goal.returns-clause-equal
returns-clause-equal c =
    subst (λ (o : Opened). (m : Memory) → ((a : ℕ) → m a ≡ opened_memory o a) → StacksSay m o.finding c.args.config.now (traces_in c.stacks_in.result))
    c.self.view_is (λ m same. over_same _ m c.view-view.ensures same c.stacks_in.ensures)

pub returns-clause-right : goal.returns-clause-right
returns-clause-right c = returns-clause-equal c (opened_memory c.args.self.now) (λ a. refl)

pub returns-clause-only : goal.returns-clause-only
returns-clause-only c =
    let o = c.args.self.now in
    sole_of (StacksSay (opened_memory o) o.finding c.args.config.now) (stacks_agree (opened_memory o) o.finding c.args.config.now)
    (traces_in c.stacks_in.result) (returns-clause-right c)

pub returns-clause-found : goal.returns-clause-found
returns-clause-found c = λ found. found_left c.args.self.now c.args.config.now c.stacks_in.result found (returns-clause-right c)
