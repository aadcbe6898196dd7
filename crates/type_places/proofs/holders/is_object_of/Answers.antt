use Rattle.std.proofs.Common.{ap, arith, refl}
use Rattle.std.proofs.lemmas.Result.{err_from_is_err_and}
use Rattle.process_memory.proofs.Reading.{reads_next, reads_halt, reads_end, reads_same}
use Rattle.py_builtins.specs.ObjectError.{object_fault}
use Rattle.type_places.proofs.HolderSteps.{object_none, object_some}
use Rattle.type_places.proofs.holders.is_object_of.Goals as goal

pub returns-then-addr-eq0 : goal.returns-then-addr-eq0
returns-then-addr-eq0 g c =
    reads_same _ _ (λ m. object_none c.args.layout.now m c.args.class c.args.addr (omega arith)) (reads_end 1 refl)

pub returns-in_err-own : goal.returns-in_err-own
returns-in_err-own g c =
    let p = err_from_is_err_and c.from_residual.result c.from_residual.ensures.1 in
    rw p.1 (reads_same _ _ (λ m. object_some c.args.layout.now m c.args.class c.args.addr (omega arith))
    (reads_halt 1 p.0 _ c.in_err-own.ensures (ap object_fault p.2) (omega arith)))

pub returns : goal.returns
returns g c = reads_same _ _ (λ m. object_some c.args.layout.now m c.args.class c.args.addr (omega arith))
    (reads_next 1 _ c.in_ok-own.ensures (reads_end 0 refl) (omega arith))
