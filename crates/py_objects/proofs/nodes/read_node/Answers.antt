use Rattle.std.proofs.Common.{ap, arith}
use Rattle.std.proofs.lemmas.Result.{err_from_is_err_and}
use Rattle.process_memory.proofs.Reading.{reads_halt, reads_next}
use Rattle.py_builtins.specs.ObjectError.{object_fault}
use Rattle.py_objects.specs.Nodes.{node_at}
use Rattle.py_objects.proofs.nodes.read_node.Goals as goal

pub returns-in_err-flags : goal.returns-in_err-flags
unfolding node_at
returns-in_err-flags g c =
    let p = err_from_is_err_and c.from_residual.result c.from_residual.ensures.1 in
    rw p.1 (reads_halt 6 p.0 _ c.in_err-flags.ensures (ap object_fault p.2) (omega arith))

pub returns : goal.returns
unfolding node_at
returns g c =
    let k = rw (c.kind_of-kind.ensures, c.deref.ensures, c.deref-2.ensures) at c.read_kind.ensures in
    reads_next {k = 3} 6 _ c.in_ok-flags.ensures k (omega arith)
