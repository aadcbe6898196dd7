use Rattle.std.proofs.Common.{ap, arith}
use Rattle.std.proofs.lemmas.Result.{err_from_is_err_and}
use Rattle.py_builtins.specs.ObjectError.{object_fault}
use Rattle.type_places.proofs.Having.{having_init, having_more, having_other, having_stop, having_done}
use Rattle.type_places.proofs.classes.have_class.Goals as goal

pub loop-object-init : goal.loop-object-init
loop-object-init g c = having_init c.args.layout.now c.args.class c.args.objects.now _

pub returns-in_err-own : goal.returns-in_err-own
returns-in_err-own g c =
    let p = err_from_is_err_and c.from_residual.result c.from_residual.ensures.1 in
    rw p.1 (having_stop p.0 c.loop-object.invariant c.loop-object-test.true c.in_err-own.ensures (ap object_fault p.2))

pub returns-then-own-class : goal.returns-then-own-class
returns-then-own-class g c = having_other c.in_ok-own.own c.loop-object.invariant c.loop-object-test.true
    c.in_ok-own.ensures c.if-own-class.true

pub loop-object-preserved : goal.loop-object-preserved
loop-object-preserved g c = having_more c.in_ok-own.own c.loop-object.invariant c.loop-object-test.true
    c.in_ok-own.ensures c.if-own-class.false

pub returns : goal.returns
returns g c = having_done c.loop-object.invariant (omega arith)
