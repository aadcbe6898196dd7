use Rattle.std.proofs.Common.{refl, ap, arith}
use Rattle.std.proofs.lemmas.Result.{err_from_is_err_and}
use Rattle.process_memory.proofs.Reading.{reads_end, reads_halt, reads_known, reads_next}
use Rattle.py_builtins.specs.ObjectError.{object_fault}
use Rattle.py_objects.specs.Nodes.{class_at}
use Rattle.py_builtins.specs.Consulted.IsWidth.{TypeName}
use Rattle.py_builtins.proofs.Consulted.{consults_field}
use Rattle.py_objects.proofs.nodes.read_class.Goals as goal

pub returns-in_err-class : goal.returns-in_err-class
unfolding class_at
returns-in_err-class g c =
    let p = err_from_is_err_and c.from_residual.result c.from_residual.ensures.1 in
    rw p.1 (reads_halt 3 p.0 _ c.in_err-class.ensures (ap object_fault p.2) (omega arith))

pub returns-in_err-chars : goal.returns-in_err-chars
unfolding class_at
returns-in_err-chars g c =
    let p = err_from_is_err_and c.from_residual-in_err-chars.result c.from_residual-in_err-chars.ensures.1 in
    rw p.1 (reads_next 3 _ c.in_ok-class.ensures (reads_halt 1 p.0 _ (consults_field c.args.layout.now TypeName c.in_err-chars.ensures.answer) p.2 (omega arith)) (omega arith))

pub returns-in_err-name : goal.returns-in_err-name
unfolding class_at
returns-in_err-name g c =
    let p = err_from_is_err_and c.from_residual-in_err-name.result c.from_residual-in_err-name.ensures.1 in
    let name = rw c.deref.ensures.value at c.in_err-name.ensures in
    rw p.1 (reads_next 3 _ c.in_ok-class.ensures (reads_next 1 _ (consults_field c.args.layout.now TypeName c.in_ok-chars.ensures.answer) (reads_halt 0 p.0 _ (reads_known 0 _ _ (λ m. name)) (ap object_fault p.2) (omega arith)) (omega arith)) (omega arith))

pub returns : goal.returns
unfolding class_at
returns g c =
    let name = rw c.deref.ensures.value at c.in_ok-name.ensures in
    reads_next 3 _ c.in_ok-class.ensures (reads_next 1 _ (consults_field c.args.layout.now TypeName c.in_ok-chars.ensures.answer) (reads_next 0 _ (reads_known 0 _ _ (λ m. name)) (reads_end 0 refl) (omega arith)) (omega arith)) (omega arith)
