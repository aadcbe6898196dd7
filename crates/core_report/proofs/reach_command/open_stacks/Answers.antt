use Rattle.std.proofs.Common.{Err, Ok, subst}
use Rattle.std.proofs.lemmas.Result.{err_from_is_err_and}
use Rattle.py_process.specs.Reports.{StacksSay, traces_in}
use Rattle.core_stacks.specs.Opened.{opened_memory}
use Rattle.core_report.specs.Stacked.{locals_asked}
use Rattle.core_report.proofs.Opening.{traced_stacked, unopened_stacked, untraced_stacked}
use Rattle.core_report.proofs.reach_command.open_stacks.Goals as goal

pub returns-in_err-process : goal.returns-in_err-process
returns-in_err-process c =
    let p = err_from_is_err_and c.from_residual-in_err-process.result c.from_residual-in_err-process.ensures.1 in
    rw (p.1, p.2) (unopened_stacked c.args.bytes.items c.args.images.now c.args.layouts.now locals_asked c.in_ok-core.ensures.core
    c.in_ok-core.core _ c.in_ok-core.ensures.same c.in_err-process.ensures.right)

pub returns-in_err-traces : goal.returns-in_err-traces
returns-in_err-traces c =
    let p = err_from_is_err_and c.from_residual-in_err-traces.result c.from_residual-in_err-traces.ensures.1 in
    let o = c.in_ok-process.process in
    rw (p.1, p.2) (untraced_stacked c.args.bytes.items c.args.images.now c.args.layouts.now locals_asked c.in_ok-core.ensures.core
    c.in_ok-core.core o _ c.in_ok-core.ensures.same c.in_ok-process.ensures.right
    (subst (λ d. StacksSay (opened_memory o) o.finding (record d { dump_locals = 1 }) (Err c.in_err-traces.field-0.0)) c.default.ensures c.in_err-traces.ensures.right))

pub returns : goal.returns
returns c =
    let o = c.in_ok-process.process in
    traced_stacked c.args.bytes.items c.args.images.now c.args.layouts.now locals_asked c.in_ok-core.ensures.core
    c.in_ok-core.core o _ c.in_ok-core.ensures.same c.in_ok-process.ensures.right
    (subst (λ d. StacksSay (opened_memory o) o.finding (record d { dump_locals = 1 }) (traces_in (Ok c.in_ok-traces.traces))) c.default.ensures c.in_ok-traces.ensures.right)
