use Rattle.std.proofs.Common.{◌≡◌, ◌∙◌, sym, ap, arith}
use Rattle.std.specs.Prelude.{IfOk, Some}
use Rattle.process_memory.proofs.Reading.{reading_gives, reading_then}
use Rattle.py_runs.specs.Runs.{runs_at, runs_by}
use Rattle.py_runs.proofs.Said.{said}
use Rattle.py_runs.proofs.thread.read_runs.Goals as goal

pub returns-in-Some : goal.returns-in-Some
returns-in-Some g c = reading_gives _ _
    (reading_then (λ m. IfOk c.runs_by.result
    (λ runs. runs.items ≡ runs_at c.args.layout.now c.args.end m c.args.thread c.args.count))
    c.in_ok-named.ensures c.runs_by.ensures
    (λ m a b. said c.runs_by.result (runs_by c.args.layout.now c.args.end m c.args.count (Some c.in-Some.named))
    (runs_at c.args.layout.now c.args.end m c.args.thread c.args.count)
    (ap (λ n. runs_by c.args.layout.now c.args.end m c.args.count n) (sym c.in-Some.is ∙ a)) b))
    (omega arith) (λ m h. h)

pub returns-in-None : goal.returns-in-None
returns-in-None g c = reading_gives _ _ c.in_ok-named.ensures (omega arith)
    (λ m a. c.new.ensures.items ∙ ap (λ n. runs_by c.args.layout.now c.args.end m c.args.count n)
    (sym c.in-None.is ∙ a))
