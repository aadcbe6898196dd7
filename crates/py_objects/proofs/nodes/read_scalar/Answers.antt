use Rattle.std.proofs.Common.{refl, ap, arith}
use Rattle.std.proofs.lemmas.Result.{err_from_is_err_and}
use Rattle.process_memory.proofs.Reading.{reads_end, reads_halt, reads_known, reads_next}
use Rattle.py_builtins.specs.ObjectError.{object_fault}
use Rattle.py_objects.specs.Nodes.{scalar_node}
use Rattle.py_builtins.proofs.Consulted.{consults_field}
use Rattle.py_objects.proofs.Steps.{scalar_wide}
use Rattle.py_objects.proofs.nodes.read_scalar.Goals as goal

pub returns-in_err-bytes : goal.returns-in_err-bytes
unfolding scalar_node
returns-in_err-bytes g c =
    let p = err_from_is_err_and c.from_residual.result c.from_residual.ensures.1 in
    rw p.1 (reads_halt 1 p.0 _ (consults_field c.args.layout.now (scalar_wide c.args.scalar) (rw c.width.ensures at c.in_err-bytes.ensures.answer)) p.2 (omega arith))

pub returns-in_err-scalar : goal.returns-in_err-scalar
unfolding scalar_node
returns-in_err-scalar g c =
    let p = err_from_is_err_and c.from_residual-in_err-scalar.result c.from_residual-in_err-scalar.ensures.1 in
    let text = rw c.deref.ensures.value at c.in_err-scalar.ensures in
    rw p.1 (reads_next 1 _ (consults_field c.args.layout.now (scalar_wide c.args.scalar) (rw c.width.ensures at c.in_ok-bytes.ensures.answer)) (reads_halt 0 p.0 _ (reads_known 0 _ _ (λ m. text)) (ap object_fault p.2) (omega arith)) (omega arith))

pub returns : goal.returns
unfolding scalar_node
returns g c =
    let text = rw c.deref.ensures.value at c.in_ok-scalar.ensures in
    reads_next 1 _ (consults_field c.args.layout.now (scalar_wide c.args.scalar) (rw c.width.ensures at c.in_ok-bytes.ensures.answer)) (reads_next 0 _ (reads_known 0 _ _ (λ m. text)) (reads_end 0 refl) (omega arith)) (omega arith)
