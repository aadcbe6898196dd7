use Rattle.std.proofs.Common.{◌≡◌, ◌∙◌, ap, arith}
use Rattle.std.specs.Prelude.{IfOk, Some}
use Rattle.std.proofs.lemmas.Result.{err_from_is_err_and}
use Rattle.process_memory.proofs.Reading.{reading_gives, reading_then}
use Rattle.py_runs.specs.Members.{current_of}
use Rattle.py_runs.specs.Runs.{bordered, runs_by, spans_by}
use Rattle.py_runs.proofs.Said.{said}
use Rattle.py_runs.proofs.thread.runs_by.Goals as goal

pub returns-in_err-first : goal.returns-in_err-first
returns-in_err-first g c =
    let p = err_from_is_err_and c.from_residual.result c.from_residual.ensures.1 in
    rw p.1 (reading_gives _ _ c.in_err-first.ensures (omega arith) (λ m a. tt))

pub returns-in_err-spans : goal.returns-in_err-spans
returns-in_err-spans g c =
    let p = err_from_is_err_and c.from_residual-in_err-spans.result c.from_residual-in_err-spans.ensures.1 in
    rw p.1 (reading_gives _ _ (reading_then (λ m. Unit {0}) c.in_ok-first.ensures c.in_err-spans.ensures (λ m a b. tt))
    (omega arith) (λ m h. tt))

pub returns : goal.returns
returns g c = reading_gives _ _
    (reading_then (λ m. IfOk c.bordered.result
    (λ runs. runs.items ≡ runs_by c.args.layout.now c.args.end m c.args.count (Some c.args.named)))
    (reading_then (λ m. c.in_ok-spans.spans.items
    ≡ spans_by c.args.layout.now c.args.end m c.args.count (current_of m c.args.layout.now.cframe c.args.named))
    c.in_ok-first.ensures c.in_ok-spans.ensures
    (λ m a b. b ∙ ap (λ f. spans_by c.args.layout.now c.args.end m c.args.count f) a)) c.bordered.ensures
    (λ m a b. said c.bordered.result (bordered c.args.end m c.args.count c.args.named c.deref.result.now)
    (runs_by c.args.layout.now c.args.end m c.args.count (Some c.args.named))
    (ap (λ rs. bordered c.args.end m c.args.count c.args.named rs) (c.deref.ensures.value ∙ a)) b))
    (omega arith) (λ m h. h)
