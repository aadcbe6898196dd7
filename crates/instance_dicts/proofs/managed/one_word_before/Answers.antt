use Rattle.std.proofs.Common.{arith}
use Rattle.std.proofs.lemmas.Result.{err_from_is_err_and}
use Rattle.process_memory.proofs.Reading.{reads_next, reads_halt}
use Rattle.py_builtins.specs.Consulted.IsWidth.{Word}
use Rattle.py_builtins.proofs.Consulted.{reads_field}
use Rattle.instance_dicts.specs.Managed.{one_word_at}
use Rattle.instance_dicts.proofs.managed.one_word_before.Goals as goal

pub returns-in_err-word : goal.returns-in_err-word
unfolding one_word_at
returns-in_err-word g c =
    let p = err_from_is_err_and c.from_residual.result c.from_residual.ensures.1 in
    rw p.1 (reads_halt 2 p.0 _ (reads_field Word c.in_err-word.ensures.answer) p.2 (omega arith))

pub returns : goal.returns
unfolding one_word_at
returns g c =
    reads_next 2 _ (reads_field Word c.in_ok-word.ensures.answer)
    c.one_word.ensures (omega arith)
