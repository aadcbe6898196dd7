use Rattle.std.proofs.lemmas.Result.{err_from_is_err_and}
use Rattle.py_builtins.specs.Consulted.IsWidth.{Word}
use Rattle.py_builtins.proofs.Consulted.{consults_field}
use Rattle.py_names.proofs.TypedSteps.{reads_fail, reads_pass}
use Rattle.py_stacks.proofs.interpreter.get_first_thread.Goals as goal

pub returns-in_err-head-clause-answer : goal.returns-in_err-head-clause-answer
returns-in_err-head-clause-answer g c =
    let p = err_from_is_err_and c.from_residual.result c.from_residual.ensures.1 in
    rw p.1 (reads_fail p.0 (consults_field c.args.layout.now Word c.in_err-head.ensures.answer) p.2)

pub returns-clause-answer : goal.returns-clause-answer
returns-clause-answer g c = reads_pass (consults_field c.args.layout.now Word c.in_ok-head.ensures.answer)
