use Rattle.std.proofs.Common.{rules, ap, ◌≡◌, ◌∙◌, subst, sym}
use Rattle.std.specs.Prelude.{Err, IfErr}
use Rattle.std.proofs.lemmas.Result.{err_from_is_err_and}
use Rattle.image_memory.specs.Backed.{regions_of}
use Rattle.process_memory.specs.Seen.{Seen}
use Rattle.py_process.specs.Reports.{IsReadable, reported}
use Rattle.py_process.specs.declared.core_error.CoreError.TheVariants.{OutOfMemory}
use Rattle.core_stacks.proofs.ReportSteps.{report_counts, report_goods, report_settles, unknown_memory, unknown_reports}
use Rattle.core_stacks.proofs.reporting.report_counted.Goals as goal

pub returns-in_err-info-clause-settles : goal.returns-in_err-info-clause-settles
returns-in_err-info-clause-settles g c =
    let p = err_from_is_err_and c.from_residual-in_err-info.result c.from_residual-in_err-info.ensures.1 in
    let knows = rw c.core.ensures.same at c.in_err-info.ensures in
    rw c.in_ok-loaded.ensures.same at (unknown_reports c.in_ok-loaded.loaded.dump.core c.args.images.now c.args.layouts.now c.args.config.now
    (record { maps = knows.maps; pieces = regions_of c.in_ok-loaded.loaded.dump }) c.in_ok-loaded.ensures.core
    (record { are_maps = knows.are_maps; memory = c.in_ok-loaded.ensures.memory }) c.in_err-info.field-0.0 knows.says _
    (ap reported (p.1 ∙ ap (λ e. Err e) p.2)))

pub returns-in_err-info-clause-complete : goal.returns-in_err-info-clause-complete
returns-in_err-info-clause-complete g c = λ good.
    let p = err_from_is_err_and c.from_residual-in_err-info.result c.from_residual-in_err-info.ensures.1 in
    let knows = rw c.core.ensures.same at c.in_err-info.ensures in
    subst (λ r. IfErr r (λ error. error ≡ OutOfMemory)) (sym (p.1 ∙ ap (λ e. Err e) p.2))
    (unknown_memory c.in_ok-loaded.loaded.dump.core c.args.images.now c.args.layouts.now c.args.config.now
    (record { maps = knows.maps; pieces = regions_of c.in_ok-loaded.loaded.dump }) c.in_ok-loaded.ensures.core
    (record { are_maps = knows.are_maps; memory = c.in_ok-loaded.ensures.memory }) c.in_err-info.field-0.0 knows.says
    (subst (λ bs. IsReadable bs c.args.images.now c.args.layouts.now c.args.config.now) (sym c.in_ok-loaded.ensures.same) good))

pub returns-clause-settles : goal.returns-clause-settles
returns-clause-settles g c =
    let knows = rw c.core.ensures.same at c.in_ok-info.ensures in
    rw c.in_ok-loaded.ensures.same at (report_settles c.in_ok-loaded.loaded.dump.core c.args.images.now c.args.layouts.now c.args.config.now
    (record { maps = knows.maps; pieces = regions_of c.in_ok-loaded.loaded.dump }) c.in_ok-loaded.ensures.core
    (record { are_maps = knows.are_maps; memory = c.in_ok-loaded.ensures.memory })
    c.report_over.ensures.reports c.core-2.ensures.same (ap (λ (s : Seen). s.pieces) c.new-counted.ensures ∙ ap (λ (s : Seen). s.pieces) c.view.ensures) knows.tested knows.says)

pub returns-clause-complete : goal.returns-clause-complete
returns-clause-complete g c = λ good.
    let knows = rw c.core.ensures.same at c.in_ok-info.ensures in
    report_goods c.in_ok-loaded.loaded.dump.core c.args.images.now c.args.layouts.now c.args.config.now
    (record { maps = knows.maps; pieces = regions_of c.in_ok-loaded.loaded.dump }) c.in_ok-loaded.ensures.core
    (record { are_maps = knows.are_maps; memory = c.in_ok-loaded.ensures.memory })
    c.report_over.ensures.complete c.core-2.ensures.same (ap (λ (s : Seen). s.pieces) c.new-counted.ensures ∙ ap (λ (s : Seen). s.pieces) c.view.ensures) knows.tested knows.says
    (subst (λ bs. IsReadable bs c.args.images.now c.args.layouts.now c.args.config.now) (sym c.in_ok-loaded.ensures.same) good)

pub returns-clause-counted : goal.returns-clause-counted
returns-clause-counted g c =
    let counter = c.report_over.ensures.reports.reading.counter in
    let begun = c.new-counted.ensures in
    let knows = rw c.core.ensures.same at c.in_ok-info.ensures in
    report_counts c.in_ok-loaded.loaded.dump.core c.args.images.now c.args.layouts.now c.args.config.now
    (record { maps = knows.maps; pieces = regions_of c.in_ok-loaded.loaded.dump }) c.in_ok-loaded.ensures.core
    (record { are_maps = knows.are_maps; memory = c.in_ok-loaded.ensures.memory })
    c.report_over.ensures.reports c.core-2.ensures.same (ap (λ (s : Seen). s.pieces) c.new-counted.ensures ∙ ap (λ (s : Seen). s.pieces) c.view.ensures) knows.tested knows.says c.in_ok-loaded.ensures.same (ap (λ (s : Seen). s.reads) c.new-counted.ensures) (search rules)
