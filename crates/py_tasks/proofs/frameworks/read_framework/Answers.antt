use Rattle.std.proofs.Common.{◌∙◌, ap, arith, sym}
use Rattle.std.proofs.lemmas.Result.{err_from_is_err_and}
use Rattle.process_memory.proofs.Reading.{reads_end, reads_halt, reads_next}
use Rattle.py_builtins.proofs.Consulted.{consulting_short}
use Rattle.py_tasks.specs.Frameworks.{framework_at, framework_named}
use Rattle.py_tasks.proofs.frameworks.read_framework.Goals as goal

pub returns-in_err-name : goal.returns-in_err-name
unfolding framework_at
returns-in_err-name g c =
    let p = err_from_is_err_and c.from_residual.result c.from_residual.ensures.1 in
    rw p.1 (reads_halt 2 p.0 _ (consulting_short c.in_err-name.ensures.answer) p.2.0 (omega arith))

pub returns : goal.returns
unfolding framework_at
returns g c = reads_next {k = 0} 2 _ (consulting_short c.in_ok-name.ensures.answer)
    (reads_end 0 (sym (c.framework_named.ensures ∙ ap (λ name. framework_named name) c.as_str.ensures))) (omega arith)
