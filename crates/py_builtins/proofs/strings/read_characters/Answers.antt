use Rattle.std.proofs.Common.{arith}
use Rattle.std.proofs.lemmas.Result.{err_from_is_err_and}
use Rattle.process_memory.proofs.Reading.{reads_halt, reads_known, reads_next}
use Rattle.py_builtins.specs.Texts.{characters_at}
use Rattle.py_builtins.proofs.strings.read_characters.Goals as goal

pub returns-in_err-bytes : goal.returns-in_err-bytes
unfolding characters_at
returns-in_err-bytes g c =
    let p = err_from_is_err_and c.from_residual.result c.from_residual.ensures.1 in
    rw p.1 (reads_halt 1 p.0 _ (rw c.width.ensures.value at c.in_err-bytes.ensures.answer) p.2 (omega arith))

pub returns : goal.returns
unfolding characters_at
returns g c = reads_next 1 _ (rw c.width.ensures.value at c.in_ok-bytes.ensures.answer) (reads_known 0 _ _ (λ m. c.decode.ensures)) (omega arith)
