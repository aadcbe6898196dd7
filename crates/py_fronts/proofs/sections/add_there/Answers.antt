use Rattle.std.proofs.Common.{arith}
use Rattle.std.proofs.lemmas.Result.{err_from_is_err_and}
use Rattle.py_fronts.proofs.SectionSteps.{adding_done, adding_init, adding_lost, adding_more}
use Rattle.py_fronts.proofs.sections.add_there.Goals as goal

pub loop-done-init : goal.loop-done-init
loop-done-init g c = adding_init c.args.at c.args.count _ c.args.words.now.items

pub returns-in_err-add_word : goal.returns-in_err-add_word
returns-in_err-add_word g c =
    let p = err_from_is_err_and c.from_residual.result c.from_residual.ensures.1 in
    rw p.1 (adding_lost c.args.count p.0 c.in_err-add_word.field-0.0 c.loop-done.invariant (omega arith)
    c.in_err-add_word.ensures p.2)

pub loop-done-preserved : goal.loop-done-preserved
loop-done-preserved g c = adding_more _ c.loop-done.invariant (omega arith) c.in_ok-add_word.ensures

pub returns : goal.returns
returns g c = adding_done c.args.count c.loop-done.invariant (omega arith)
