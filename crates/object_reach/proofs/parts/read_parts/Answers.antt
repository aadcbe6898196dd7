use Rattle.std.proofs.Common.{ap, arith}
use Rattle.std.proofs.lemmas.Result.{err_from_is_err_and}
use Rattle.process_memory.proofs.Reading.{reads_halt, reads_next}
use Rattle.py_builtins.specs.ObjectError.{object_fault}
use Rattle.object_reach.specs.Objects.{parts_found}
use Rattle.py_builtins.proofs.Consulted.{consulting_short}
use Rattle.object_reach.proofs.parts.read_parts.Goals as goal

pub returns-in_err-class : goal.returns-in_err-class
unfolding parts_found
returns-in_err-class g c =
    let p = err_from_is_err_and c.from_residual.result c.from_residual.ensures.1 in
    rw p.1 (reads_halt 4 p.0 _ (consulting_short c.in_err-class.ensures) (ap object_fault p.2) (omega arith))

pub returns : goal.returns
unfolding parts_found
returns g c =
    let k = rw c.contents_of-contents.ensures at c.read_contents.ensures in
    reads_next {k = 2} 4 _ (consulting_short c.in_ok-class.ensures) k (omega arith)
