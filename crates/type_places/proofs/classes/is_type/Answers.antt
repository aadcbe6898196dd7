use Rattle.std.proofs.Common.{sym, ap, arith}
use Rattle.std.proofs.lemmas.Result.{err_from_is_err_and}
use Rattle.process_memory.proofs.Reading.{reads_next, reads_halt, reads_end}
use Rattle.py_builtins.specs.Consulted.IsWidth.{Word}
use Rattle.py_builtins.proofs.Consulted.{reads_field}
use Rattle.py_builtins.specs.ObjectError.{object_fault}
use Rattle.type_places.specs.Classes.{is_type_at}
use Rattle.type_places.proofs.FlagSteps.{flag_set}
use Rattle.type_places.proofs.classes.is_type.Goals as goal

pub returns-in_err-class : goal.returns-in_err-class
unfolding is_type_at
returns-in_err-class g c =
    let p = err_from_is_err_and c.from_residual.result c.from_residual.ensures.1 in
    rw p.1 (reads_halt 2 p.0 _ c.in_err-class.ensures (ap object_fault p.2) (omega arith))

pub returns-in_err-flags : goal.returns-in_err-flags
unfolding is_type_at
returns-in_err-flags g c =
    let p = err_from_is_err_and c.from_residual-in_err-flags.result c.from_residual-in_err-flags.ensures.1 in
    rw p.1 (reads_next 2 _ c.in_ok-class.ensures
    (reads_halt 1 p.0 _ (reads_field Word c.in_err-flags.ensures.answer) p.2 (omega arith)) (omega arith))

pub returns : goal.returns
unfolding is_type_at
returns g c =
    reads_next 2 _ c.in_ok-class.ensures (reads_next 1 _ (reads_field Word c.in_ok-flags.ensures.answer)
    (reads_end 0 (sym (flag_set c.in_ok-flags.flags))) (omega arith)) (omega arith)
