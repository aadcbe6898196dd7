use Rattle.std.proofs.Common.{sym, ◌∙◌, ap, Ok}
use Rattle.native_merge.specs.SymbolCaches.{answer_listed}
use Rattle.native_merge.proofs.Gathers.{more_ok, more_fault}
use Rattle.native_merge.proofs.gathered.add_answer.Goals as goal

pub returns-in_ok-next-in-Ok-clause-more : goal.returns-in_ok-next-in-Ok-clause-more
returns-in_ok-next-in-Ok-clause-more g c = more_ok c.args.is_python c.args.addr (answer_listed c.args.answer) c.deref.result.now
    (ap answer_listed c.in-Ok.is ∙ ap Ok (sym c.deref.ensures.value)) c.in_ok-next-in-Ok.ensures.more

pub returns-in_ok-push-in-Err-clause-more : goal.returns-in_ok-push-in-Err-clause-more
returns-in_ok-push-in-Err-clause-more g c = more_fault c.args.is_python c.args.addr (answer_listed c.args.answer) c.in-Err.field-0
    c.in_ok-frame-in-Err.frame (ap answer_listed c.in-Err.is) c.in_ok-frame-in-Err.ensures c.in_ok-push-in-Err.ensures.items
