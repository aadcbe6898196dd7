use Rattle.std.proofs.Common.{◌∙◌, sym, ap, arith, rules}
use Rattle.std.specs.Int.{w64}
use Rattle.std.proofs.lemmas.Int.{to_z-of_z}
use Rattle.std.proofs.lemmas.Result.{err_from_is_err_and}
use Rattle.process_memory.proofs.Reading.{reads_end, reads_halt, reads_next}
use Rattle.py_builtins.specs.ObjectError.{object_fault}
use Rattle.py_objects.specs.ShownTexts.{long_text}
use Rattle.py_objects.specs.Nodes.{long_node}
use Rattle.py_objects.specs.Shows.Node.{Whole}
use Rattle.py_objects.proofs.nodes.read_long.Goals as goal

pub returns-in_err-value : goal.returns-in_err-value
unfolding long_node
returns-in_err-value g c =
    let p = err_from_is_err_and c.from_residual.result c.from_residual.ensures.1 in
    rw p.1 (reads_halt 2 p.0 _ c.in_err-value.ensures.answer (ap object_fault p.2) (omega arith))

pub returns : goal.returns
unfolding long_node
returns g c =
    let back = to_z-of_z w64 c.in_ok-value.value (search rules) in
    let text = c.in_ok-long_number.ensures ∙ ap (λ z. long_text c.args.name.now (z, c.in_ok-value.is_big)) back in
    reads_next 2 _ c.in_ok-value.ensures.answer (reads_end 0 (ap Whole (sym text))) (omega arith)
