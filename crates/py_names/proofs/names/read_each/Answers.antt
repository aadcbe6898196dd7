use Rattle.std.proofs.Common.{arith, ap, refl}
use Rattle.std.proofs.lemmas.Result.{err_from_is_err_and}
use Rattle.py_names.specs.NamesError.{names_fault}
use Rattle.py_names.specs.declared.names_error.NamesError.TheVariants.{Entries}
use Rattle.py_names.proofs.NameSteps.{naming_init, naming_more, naming_done, naming_over, naming_stop, naming_lost}
use Rattle.py_names.proofs.names.read_each.Goals as goal

pub loop-number-init : goal.loop-number-init
loop-number-init g c = rw c.new-names.ensures.items (naming_init c.args.layout.now c.args.dict.now.slots _ c.args.limit)

pub returns-then-left-eq0-clause-answer : goal.returns-then-left-eq0-clause-answer
returns-then-left-eq0-clause-answer g c = naming_over {fault = names_fault} Entries c.loop-number.invariant (omega (arith, c.remaining-number-end.ensures)) (omega arith) refl

pub returns-in_err-given-clause-answer : goal.returns-in_err-given-clause-answer
returns-in_err-given-clause-answer g c =
    let p = err_from_is_err_and c.from_residual.result c.from_residual.ensures.1 in
    rw p.1 (naming_stop p.0 c.loop-number.invariant (omega (arith, c.remaining-number-end.ensures)) (omega arith) c.in_err-given.ensures.answer (ap names_fault p.2))

pub returns-in_err-add_name-clause-answer : goal.returns-in_err-add_name-clause-answer
returns-in_err-add_name-clause-answer g c =
    let p = err_from_is_err_and c.from_residual-in_err-add_name.result c.from_residual-in_err-add_name.ensures.1 in
    rw p.1 (naming_lost p.0 c.loop-number.invariant (omega (arith, c.remaining-number-end.ensures)) (omega arith) c.in_ok-given.ensures.answer (ap names_fault p.2))

pub loop-number-preserved : goal.loop-number-preserved
loop-number-preserved g c =
    rw c.in_ok-add_name.ensures (naming_more c.in_ok-given.given c.loop-number.invariant (omega (arith, c.remaining-number-end.ensures)) (omega arith) c.in_ok-given.ensures.answer)

pub returns-clause-answer : goal.returns-clause-answer
returns-clause-answer g c = naming_done c.loop-number.invariant (omega (arith, c.requires.start, c.remaining-number-end.ensures))
