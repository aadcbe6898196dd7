use Rattle.std.proofs.lemmas.Result.{err_from_is_err_and}
use Rattle.py_names.proofs.TypedSteps.{reads_fail, reads_pass}
use Rattle.py_builtins.specs.Consulted.IsWidth.{Word}
use Rattle.py_builtins.proofs.Consulted.{reads_field}
use Rattle.type_places.specs.Classes.{class_address_at}
use Rattle.type_places.proofs.classes.class_of.Goals as goal

pub returns-in_err-word_past : goal.returns-in_err-word_past
unfolding class_address_at
returns-in_err-word_past g c =
    let p = err_from_is_err_and c.from_residual.result c.from_residual.ensures.1 in
    rw p.1 (reads_fail p.0 (reads_field Word c.in_err-word_past.ensures.answer) p.2)

pub returns : goal.returns
unfolding class_address_at
returns g c = reads_pass (reads_field Word c.in_ok-word_past.ensures.answer)
