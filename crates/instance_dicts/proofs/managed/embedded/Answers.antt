use Rattle.std.proofs.Common.{arith}
use Rattle.std.proofs.lemmas.Result.{err_from_is_err_and}
use Rattle.process_memory.proofs.Reading.{reads_next, reads_halt}
use Rattle.py_builtins.specs.Consulted.IsWidth.{Word}
use Rattle.py_builtins.proofs.Consulted.{reads_field}
use Rattle.instance_dicts.specs.Managed.{embedded_at}
use Rattle.instance_dicts.proofs.managed.embedded.Goals as goal

pub returns-in_err-named : goal.returns-in_err-named
unfolding embedded_at
returns-in_err-named g c =
    let p = err_from_is_err_and c.from_residual.result c.from_residual.ensures.1 in
    rw p.1 (reads_halt 4 p.0 _ (reads_field Word c.in_err-named.ensures.answer) p.2 (omega arith))

pub returns : goal.returns
unfolding embedded_at
returns g c =
    reads_next 4 _ (reads_field Word c.in_ok-named.ensures.answer)
    c.embedded_by.ensures (omega arith)
