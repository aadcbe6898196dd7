use Rattle.std.proofs.Common.{refl, ap, arith}
use Rattle.std.proofs.lemmas.Result.{err_from_is_err_and}
use Rattle.process_memory.proofs.Reading.{reads_end, reads_halt, reads_next}
use Rattle.py_builtins.specs.ObjectError.{object_fault}
use Rattle.py_objects.specs.Nodes.{text_node}
use Rattle.py_objects.proofs.nodes.read_text.Goals as goal

pub returns-in_err-copy_string : goal.returns-in_err-copy_string
unfolding text_node
returns-in_err-copy_string g c =
    let p = err_from_is_err_and c.from_residual.result c.from_residual.ensures.1 in
    rw p.1 (reads_halt 2 p.0 _ c.in_err-copy_string.ensures.answer (ap object_fault p.2) (omega arith))

pub returns : goal.returns
unfolding text_node
returns g c = reads_next 2 _ c.in_ok-copy_string.ensures.answer (reads_end 0 refl) (omega arith)
