use Rattle.std.proofs.Common.{arith, ap, refl}
use Rattle.std.proofs.lemmas.Result.{err_from_is_err_and}
use Rattle.py_names.specs.NamesError.{names_fault}
use Rattle.py_names.specs.declared.names_error.NamesError.TheVariants.{Entries}
use Rattle.py_names.proofs.SearchSteps.{searching_init, searching_more, searching_found, searching_done, searching_over}
use Rattle.py_names.proofs.SearchSteps.{searching_stop}
use Rattle.py_names.proofs.search.find_in.Goals as goal

pub loop-number-init : goal.loop-number-init
loop-number-init g c = searching_init c.args.layout.now c.args.name.now c.args.dict.now.slots _ c.args.limit

pub returns-then-left-eq0-clause-answer : goal.returns-then-left-eq0-clause-answer
returns-then-left-eq0-clause-answer g c = searching_over {fault = names_fault} Entries c.loop-number.invariant (omega (arith, c.remaining-number-end.ensures)) (omega arith) refl

pub returns-in_err-value-clause-answer : goal.returns-in_err-value-clause-answer
returns-in_err-value-clause-answer g c =
    let p = err_from_is_err_and c.from_residual.result c.from_residual.ensures.1 in
    rw p.1 (searching_stop p.0 c.loop-number.invariant (omega (arith, c.remaining-number-end.ensures)) (omega arith) c.in_err-value.ensures.answer (ap names_fault p.2))

pub returns-in-Some-clause-answer : goal.returns-in-Some-clause-answer
returns-in-Some-clause-answer g c = searching_found c.in-Some.value c.loop-number.invariant (omega (arith, c.remaining-number-end.ensures)) (omega arith) (rw c.in-Some.is at c.in_ok-value.ensures.answer)

pub loop-number-preserved : goal.loop-number-preserved
loop-number-preserved g c = searching_more c.loop-number.invariant (omega (arith, c.remaining-number-end.ensures)) (omega arith) (rw c.in-None.is at c.in_ok-value.ensures.answer)

pub returns-clause-answer : goal.returns-clause-answer
returns-clause-answer g c = searching_done c.loop-number.invariant (omega (arith, c.requires.start, c.remaining-number-end.ensures))
