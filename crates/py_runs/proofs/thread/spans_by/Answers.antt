use Rattle.std.proofs.Common.{◌∙◌, sym, ap, arith}
use Rattle.std.proofs.lemmas.Result.{err_from_is_err_and}
use Rattle.process_memory.proofs.Reading.{reading_gives, reading_none}
use Rattle.py_runs.specs.Cuts.{spans_of}
use Rattle.py_runs.specs.Runs.{has_shims, spans_by}
use Rattle.py_runs.proofs.Said.{said}
use Rattle.py_runs.proofs.thread.spans_by.Goals as goal

pub returns-in_ok-members-in-Some : goal.returns-in_ok-members-in-Some
returns-in_ok-members-in-Some g c = reading_gives _ _ c.in_ok-members-in-Some.ensures (omega arith)
    (λ m a. said c.spans_of.result (spans_of c.has_shims.result c.deref.result.now)
    (spans_by c.args.layout.now c.args.end m c.args.count c.args.first)
    (ap (λ s. spans_of s c.deref.result.now) c.has_shims.ensures
    ∙ ap (λ ms. spans_of (has_shims c.args.end) ms) (c.deref.ensures.value ∙ a)
    ∙ ap (λ f. spans_by c.args.layout.now c.args.end m c.args.count f) (sym c.in-Some.is)) c.spans_of.ensures)

pub returns-in_err-members-in-Some : goal.returns-in_err-members-in-Some
returns-in_err-members-in-Some g c =
    let p = err_from_is_err_and c.from_residual.result c.from_residual.ensures.1 in
    rw p.1 (reading_gives _ _ c.in_err-members-in-Some.ensures (omega arith) (λ m a. tt))

pub returns-in-None : goal.returns-in-None
returns-in-None g c = reading_none _ _ _
    (λ m. c.new.ensures.items ∙ ap (λ f. spans_by c.args.layout.now c.args.end m c.args.count f) (sym c.in-None.is))
