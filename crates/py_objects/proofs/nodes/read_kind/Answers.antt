use Rattle.std.proofs.Common.{◌∙◌, sym, ap}
use Rattle.std.specs.Prelude.{Ok}
use Rattle.std.proofs.lemmas.Result.{err_from_is_err_and}
use Rattle.process_memory.proofs.Reading.{reads_known}
use Rattle.py_objects.specs.Nodes.{kind_node}
use Rattle.py_objects.specs.Shows.Node.{Whole}
use Rattle.py_objects.proofs.nodes.read_kind.Goals as goal

pub returns-in_err-from_str-in-Nothing : goal.returns-in_err-from_str-in-Nothing
returns-in_err-from_str-in-Nothing g c =
    let p = err_from_is_err_and c.from_residual.result c.from_residual.ensures.1 in
    rw p.1 (reads_known 3 _ _ (λ m. record { is = rw p.2 tt }))

pub returns-in_err-other-in-Other : goal.returns-in_err-other-in-Other
returns-in_err-other-in-Other g c =
    let p = err_from_is_err_and c.from_residual-in_err-other-in-Other.result c.from_residual-in_err-other-in-Other.ensures.1 in
    rw p.1 (reads_known 3 _ _ (λ m. record { is = rw p.2 tt }))

pub returns-in_ok-from_str-in-Nothing : goal.returns-in_ok-from_str-in-Nothing
returns-in_ok-from_str-in-Nothing g c =
    reads_known 3 _ _ (λ m. record { is = ap (kind_node c.args.layout.now m c.args.addr c.args.name.now) c.in-Nothing.is ∙ ap (λ t. Ok (Whole t)) (sym c.in_ok-from_str-in-Nothing.ensures.ok) })

pub returns-in_ok-other-in-Other : goal.returns-in_ok-other-in-Other
returns-in_ok-other-in-Other g c =
    reads_known 3 _ _ (λ m. record { is = ap (kind_node c.args.layout.now m c.args.addr c.args.name.now) c.in-Other.is ∙ ap (λ t. Ok (Whole t)) (sym c.in_ok-other-in-Other.ensures) })
