use Rattle.std.proofs.Common.{sym, arith}
use Rattle.std.proofs.lemmas.Result.{err_from_is_err_and}
use Rattle.process_memory.proofs.Reading.{reads_next, reads_halt, reads_end}
use Rattle.py_builtins.specs.Consulted.IsWidth.{Word}
use Rattle.py_builtins.proofs.Consulted.{reads_field}
use Rattle.instance_dicts.specs.Plain.{named_dict_at}
use Rattle.instance_dicts.proofs.plain.named_dict.Goals as goal

pub returns-in_err-word : goal.returns-in_err-word
unfolding named_dict_at
returns-in_err-word g c =
    let p = err_from_is_err_and c.from_residual.result c.from_residual.ensures.1 in
    rw p.1 (reads_halt 1 p.0 _ (reads_field Word c.in_err-word.ensures.answer) p.2 (omega arith))

pub returns : goal.returns
unfolding named_dict_at
returns g c =
    reads_next 1 _ (reads_field Word c.in_ok-word.ensures.answer)
    (reads_end 0 (sym c.dict_or_none.ensures)) (omega arith)
