use Rattle.std.proofs.Common.{◌*◌, arith, ap}
use Rattle.std.proofs.lemmas.Result.{err_from_is_err_and}
use Rattle.process_memory.proofs.Reading.{reading_gives, reading_then}
use Rattle.py_builtins.specs.ObjectError.{object_fault}
use Rattle.py_reprs.specs.Attributes.{attributes_at, found_or_none, instance_by}
use Rattle.py_reprs.specs.Levels.{instance_at}
use Rattle.py_reprs.specs.Names.{name_at}
use Rattle.py_reprs.proofs.Attributing.{instance_is}
use Rattle.py_reprs.proofs.Told.{named_lost}
use Rattle.py_reprs.proofs.levels.read_instance.Goals as goal

pub returns-in_err-class-clause-answer : goal.returns-in_err-class-clause-answer
unfolding instance_at
returns-in_err-class-clause-answer g c =
    let p = err_from_is_err_and c.from_residual.result c.from_residual.ensures.1 in
    rw p.1 (reading_gives _ _ c.in_err-class.ensures (omega arith) (λ m h. named_lost
    (λ name. instance_by c.args.limits.now name c.args.addr c.args.nodes
    (found_or_none (attributes_at c.args.layout.now c.args.rule m (4 * c.args.limits.now.items) c.args.addr)))
    (name_at m c.args.name) h (ap object_fault p.2)))

pub returns-in_err-found-clause-answer : goal.returns-in_err-found-clause-answer
returns-in_err-found-clause-answer g c =
    let p = err_from_is_err_and c.from_residual-in_err-found.result c.from_residual-in_err-found.ensures.1 in
    rw p.1 (reading_gives _ _ (reading_then _ c.in_ok-class.ensures c.in_err-found.ensures (λ m a b. b)) (omega arith)
    (λ m h. record { is = rw (ap object_fault p.2) tt }))

pub returns-in_err-level-clause-answer : goal.returns-in_err-level-clause-answer
returns-in_err-level-clause-answer g c =
    let p = err_from_is_err_and c.from_residual-in_err-level.result c.from_residual-in_err-level.ensures.1 in
    rw p.1 (reading_gives _ _ (reading_then _ c.in_ok-class.ensures c.in_ok-found.ensures (λ m a b. b)) (omega arith)
    (λ m h. record { is = rw (ap object_fault p.2) tt }))

pub returns-clause-answer : goal.returns-clause-answer
unfolding instance_at
returns-clause-answer g c =
    reading_gives _ _ (reading_then _ c.in_ok-class.ensures c.in_ok-found.ensures (λ m h e. instance_is c.args.limits.now
    c.args.addr c.args.nodes _ _ _ _ c.in_ok-level.level h e c.in_ok-level.ensures.answer)) (omega arith) (λ m h. h)
