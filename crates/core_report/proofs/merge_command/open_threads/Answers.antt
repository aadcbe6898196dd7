use Rattle.std.proofs.Common.{Err, Ok, subst, ◌∙◌}
use Rattle.std.specs.Prelude.{option_map}
use Rattle.std.proofs.lemmas.Result.{err_from_is_err_and}
use Rattle.py_process.specs.Facts.{facts_of}
use Rattle.py_process.specs.Reports.{StacksSay, traces_in}
use Rattle.py_stacks.specs.Asking.{default_config}
use Rattle.core_stacks.specs.Opened.{opened_memory}
use Rattle.core_stacks.specs.Seen.{AreBinaries}
use Rattle.core_report.proofs.Opening.{traced_stacked, unopened_stacked, untraced_stacked}
use Rattle.core_report.proofs.merge_command.open_threads.Goals as goal

pub returns-in_err-process-clause-stacks : goal.returns-in_err-process-clause-stacks
returns-in_err-process-clause-stacks c =
    let p = err_from_is_err_and c.from_residual-in_err-process.result c.from_residual-in_err-process.ensures.1 in
    rw (p.1, p.2) (unopened_stacked c.args.bytes.items c.args.images.now c.args.layouts.now default_config c.in_ok-core.ensures.core
    c.in_ok-core.core _ c.in_ok-core.ensures.same c.in_err-process.ensures.right)

pub returns-in_err-traces-clause-stacks : goal.returns-in_err-traces-clause-stacks
returns-in_err-traces-clause-stacks c =
    let p = err_from_is_err_and c.from_residual-in_err-traces.result c.from_residual-in_err-traces.ensures.1 in
    let o = c.in_ok-process.process in
    rw (p.1, p.2) (untraced_stacked c.args.bytes.items c.args.images.now c.args.layouts.now default_config c.in_ok-core.ensures.core
    c.in_ok-core.core o _ c.in_ok-core.ensures.same c.in_ok-process.ensures.right
    (subst (λ d. StacksSay (opened_memory o) o.finding d (Err c.in_err-traces.field-0.0)) c.default.ensures c.in_err-traces.ensures.right))

pub returns-clause-stacks : goal.returns-clause-stacks
returns-clause-stacks c =
    let o = c.in_ok-process.process in
    traced_stacked c.args.bytes.items c.args.images.now c.args.layouts.now default_config c.in_ok-core.ensures.core
    c.in_ok-core.core o _ c.in_ok-core.ensures.same c.in_ok-process.ensures.right
    (subst (λ d. StacksSay (opened_memory o) o.finding d (traces_in (Ok c.in_ok-traces.traces))) c.default.ensures c.in_ok-traces.ensures.right)

pub returns-clause-core : goal.returns-clause-core
returns-clause-core c = c.in_ok-process.ensures.right.core_is ∙ c.in_ok-core.ensures.same

pub returns-clause-binaries : goal.returns-clause-binaries
returns-clause-binaries c =
    subst (λ b. AreBinaries b c.args.images.now (option_map facts_of c.in_ok-process.binaries.program)
    (option_map facts_of c.in_ok-process.binaries.library)) c.in_ok-core.ensures.same c.in_ok-process.ensures.binaries
