use Rattle.std.proofs.Common.{◌∙◌, sym, ap, arith, rules}
use Rattle.std.specs.Int.{w64}
use Rattle.std.proofs.lemmas.Int.{to_z-of_z}
use Rattle.std.proofs.lemmas.Result.{err_from_is_err_and}
use Rattle.process_memory.proofs.Reading.{reads_end, reads_halt, reads_next}
use Rattle.py_builtins.specs.ObjectError.{object_fault}
use Rattle.py_objects.specs.ShownTexts.{number_text}
use Rattle.py_objects.specs.Nodes.{small_node}
use Rattle.py_objects.specs.Shows.Node.{Whole}
use Rattle.py_objects.proofs.nodes.read_small.Goals as goal

pub returns-in_err-value : goal.returns-in_err-value
unfolding small_node
returns-in_err-value g c =
    let p = err_from_is_err_and c.from_residual.result c.from_residual.ensures.1 in
    rw p.1 (reads_halt 1 p.0 _ c.in_err-value.ensures.answer (ap object_fault p.2) (omega arith))

pub returns : goal.returns
unfolding small_node
returns g c =
    let back = to_z-of_z w64 c.in_ok-value.value (search rules) in
    reads_next 1 _ c.in_ok-value.ensures.answer (reads_end 0 (ap Whole (ap (number_text c.args.name.now) (sym back) ∙ sym c.in_ok-number.ensures))) (omega arith)
