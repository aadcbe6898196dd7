use Rattle.std.proofs.Common.{◌∙◌, sym, ap}
use Rattle.std.specs.Prelude.{Ok}
use Rattle.std.proofs.lemmas.Result.{err_from_is_err_and}
use Rattle.process_memory.proofs.Reading.{reads_known}
use Rattle.py_objects.specs.Nodes.{dict_node}
use Rattle.py_objects.specs.Shows.Node.{Whole}
use Rattle.py_objects.proofs.nodes.read_dict.Goals as goal

pub returns-in_err-from_str-in-Absent : goal.returns-in_err-from_str-in-Absent
returns-in_err-from_str-in-Absent g c =
    let p = err_from_is_err_and c.from_residual.result c.from_residual.ensures.1 in
    rw p.1 (reads_known 2 _ _ (λ m. record { is = rw p.2 tt }))

pub returns-in_ok-from_str-in-Absent : goal.returns-in_ok-from_str-in-Absent
returns-in_ok-from_str-in-Absent g c =
    reads_known 2 _ _ (λ m. record { is = ap (λ d. dict_node d c.args.layout.now m c.args.addr) c.in-Absent.is ∙ ap (λ t. Ok (Whole t)) (sym c.in_ok-from_str-in-Absent.ensures.ok) })
