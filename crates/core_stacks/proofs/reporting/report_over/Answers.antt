use Rattle.std.proofs.Common.{ap, ◌≡◌, ◌∙◌, map, refl, subst, sym}
use Rattle.std.specs.Prelude.{Err, IfErr, Ok}
use Rattle.std.proofs.lemmas.Result.{err_from_is_err_and}
use Rattle.py_stacks.specs.Threads.{trace_of}
use Rattle.py_process.specs.Reports.{reported}
use Rattle.py_process.specs.declared.core_error.CoreError.TheVariants.{OutOfMemory}
use Rattle.core_stacks.specs.Seen.{finding_of}
use Rattle.core_stacks.proofs.ReportSteps.{lost, search_ends, search_memory, stacks_memory, stacks_report, told}
use Rattle.core_stacks.proofs.reporting.report_over.Goals as goal

pub returns-in_err-found-clause-reports : goal.returns-in_err-found-clause-reports
returns-in_err-found-clause-reports g c =
    let p = err_from_is_err_and c.from_residual.result c.from_residual.ensures.1 in
    let t = rw c.machine.ensures at c.in_err-found.ensures.settles in
    search_ends _ _ _ _ _ _ _ c.in_err-found.field-0.0 _ t (ap reported (p.1 ∙ ap (λ e. Err e) p.2))

pub returns-in_err-found-clause-complete : goal.returns-in_err-found-clause-complete
returns-in_err-found-clause-complete g c = λ f right asks none.
    let p = err_from_is_err_and c.from_residual.result c.from_residual.ensures.1 in
    let t = rw c.machine.ensures at c.in_err-found.ensures.settles in
    subst (λ r. IfErr r (λ error. error ≡ OutOfMemory)) (sym (p.1 ∙ ap (λ e. Err e) p.2))
    (search_memory _ _ _ _ _ c.args.config.now _ c.in_err-found.field-0.0 t f right)

pub returns-in_err-traces-clause-reports : goal.returns-in_err-traces-clause-reports
returns-in_err-traces-clause-reports g c =
    let p = err_from_is_err_and c.from_residual-in_err-traces.result c.from_residual-in_err-traces.ensures.1 in
    let t = rw c.machine.ensures at c.in_ok-found.ensures.settles in
    stacks_report _ _ _ _ _ _ _ _ (finding_of c.in_ok-found.found) t (Err c.in_err-traces.field-0.0) c.in_err-traces.ensures _
    (λ m says. lost m _ _ _ c.in_err-traces.field-0.0 _ (ap reported (p.1 ∙ ap (λ e. Err e) p.2)) says)

pub returns-in_err-traces-clause-complete : goal.returns-in_err-traces-clause-complete
returns-in_err-traces-clause-complete g c = λ f right asks none.
    let p = err_from_is_err_and c.from_residual-in_err-traces.result c.from_residual-in_err-traces.ensures.1 in
    let t = rw c.machine.ensures at c.in_ok-found.ensures.settles in
    subst (λ r. IfErr r (λ error. error ≡ OutOfMemory)) (sym (p.1 ∙ ap (λ e. Err e) p.2))
    (stacks_memory _ _ _ _ _ _ _ _ (finding_of c.in_ok-found.found) t (Err c.in_err-traces.field-0.0) c.in_err-traces.ensures
    c.in_err-traces.field-0.0 refl f right asks none)

pub returns-clause-reports : goal.returns-clause-reports
returns-clause-reports g c =
    let t = rw c.machine.ensures at c.in_ok-found.ensures.settles in
    stacks_report _ _ _ _ _ _ _ _ (finding_of c.in_ok-found.found) t (Ok (map trace_of c.in_ok-traces.traces.items)) c.in_ok-traces.ensures _
    (λ m says. told m _ _ _ (map trace_of c.in_ok-traces.traces.items) _ _
    (record { version_is = refl; traces_are = refl; notes = c.requires.notes }) refl says)
