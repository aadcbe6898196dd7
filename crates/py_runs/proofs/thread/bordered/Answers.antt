use Rattle.std.proofs.Common.{◌∙◌, sym, ap, arith}
use Rattle.process_memory.proofs.Reading.{reading_gives, reading_none}
use Rattle.py_runs.specs.declared.run_rule.RunEnd.TheVariants.{Each, Shim}
use Rattle.py_runs.specs.Cuts.{c_runs}
use Rattle.py_runs.specs.Runs.{bordered}
use Rattle.py_runs.proofs.Said.{said}
use Rattle.py_runs.proofs.thread.bordered.Goals as goal

pub returns-in-Each : goal.returns-in-Each
returns-in-Each g c = reading_none _ _ _ (λ m. said c.plain_runs.result (bordered Each m c.args.count c.args.named c.args.spans.now)
    (bordered c.args.end m c.args.count c.args.named c.args.spans.now)
    (ap (λ e. bordered e m c.args.count c.args.named c.args.spans.now) (sym c.in-Each.is)) c.plain_runs.ensures)

pub returns-in_ok-frames-in-Entry : goal.returns-in_ok-frames-in-Entry
returns-in_ok-frames-in-Entry g c = reading_gives _ _ c.in_ok-frames-in-Entry.ensures (omega arith)
    (λ m a. said c.c_runs.result (c_runs c.deref.result.now c.args.spans.now)
    (bordered c.args.end m c.args.count c.args.named c.args.spans.now)
    (ap (λ cs. c_runs cs c.args.spans.now) (c.deref.ensures.value ∙ a)
    ∙ ap (λ e. bordered e m c.args.count c.args.named c.args.spans.now) (sym c.in-Entry.is)) c.c_runs.ensures)

pub returns-in-Shim : goal.returns-in-Shim
returns-in-Shim g c = reading_none _ _ _
    (λ m. said c.shim_runs.result (bordered (Shim c.in-Shim.place c.in-Shim.owner) m c.args.count c.args.named c.args.spans.now)
    (bordered c.args.end m c.args.count c.args.named c.args.spans.now)
    (ap (λ e. bordered e m c.args.count c.args.named c.args.spans.now) (sym c.in-Shim.is)) c.shim_runs.ensures)
