use Rattle.std.proofs.Common.{arith}
use Rattle.std.proofs.lemmas.Result.{err_from_is_err_and}
use Rattle.process_memory.proofs.Reading.{reads_next, reads_halt}
use Rattle.py_builtins.specs.Consulted.IsWidth.{Word}
use Rattle.py_builtins.proofs.Consulted.{reads_field}
use Rattle.type_places.specs.Classes.{named_class_at}
use Rattle.type_places.proofs.classes.named_class.Goals as goal

pub returns-in_err-object : goal.returns-in_err-object
unfolding named_class_at
returns-in_err-object g c =
    let p = err_from_is_err_and c.from_residual.result c.from_residual.ensures.1 in
    rw p.1 (reads_halt 2 p.0 _ (reads_field Word c.in_err-object.ensures.answer) p.2 (omega arith))

pub returns : goal.returns
unfolding named_class_at
returns g c = reads_next 2 _ (reads_field Word c.in_ok-object.ensures.answer) c.class_of.ensures (omega arith)
