use Rattle.std.proofs.Common.{arith, ap}
use Rattle.std.proofs.lemmas.Result.{err_from_is_err_and}
use Rattle.process_memory.proofs.Reading.{reading_gives}
use Rattle.py_builtins.specs.ObjectError.{object_fault}
use Rattle.py_reprs.proofs.Views.{tree-Opaque}
use Rattle.py_reprs.proofs.Told.{named_is, named_lost}
use Rattle.py_reprs.specs.Names.{name_at, opaque_at}
use Rattle.py_reprs.specs.Trees.Tree.{Opaque}
use Rattle.py_reprs.proofs.names.read_opaque.Goals as goal

pub returns-in_err-class : goal.returns-in_err-class
unfolding opaque_at
returns-in_err-class g c =
    let p = err_from_is_err_and c.from_residual.result c.from_residual.ensures.1 in
    rw p.1 (reading_gives 1 _ c.in_err-class.ensures (omega arith) (λ m h. named_lost (λ name. Opaque name c.args.addr)
    (name_at m c.args.name) h (ap object_fault p.2)))

pub returns : goal.returns
unfolding opaque_at
returns g c = reading_gives 1 _ c.in_ok-class.ensures (omega arith) (λ m h. named_is (λ name. Opaque name c.args.addr)
    (name_at m c.args.name) h (tree-Opaque _ _))
