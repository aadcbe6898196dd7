use Rattle.python_literals.proofs.OneReading.{one_literal}
use Rattle.python_literals.proofs.Reading.{literal_of, words}
use Rattle.python_literals.proofs.quotes.push_quoted.Goals as goal

pub returns-in_err-push-clause-reads : goal.returns-in_err-push-clause-reads
returns-in_err-push-clause-reads c = λ rest. literal_of c.args.style c.args.points.now rest (words c.args.points.now (λ i. c.type_inv.points i))

pub returns-in_err-push-clause-only : goal.returns-in_err-push-clause-only
returns-in_err-push-clause-only c = λ rest others behind other.
    one_literal _ _ _ others behind (literal_of c.args.style c.args.points.now rest (words c.args.points.now (λ i. c.type_inv.points i))) other

pub returns-in_err-push_points-clause-reads : goal.returns-in_err-push_points-clause-reads
returns-in_err-push_points-clause-reads c = λ rest. literal_of c.args.style c.args.points.now rest (words c.args.points.now (λ i. c.type_inv.points i))

pub returns-in_err-push_points-clause-only : goal.returns-in_err-push_points-clause-only
returns-in_err-push_points-clause-only c = λ rest others behind other.
    one_literal _ _ _ others behind (literal_of c.args.style c.args.points.now rest (words c.args.points.now (λ i. c.type_inv.points i))) other

pub returns-clause-reads : goal.returns-clause-reads
returns-clause-reads c = λ rest. literal_of c.args.style c.args.points.now rest (words c.args.points.now (λ i. c.type_inv.points i))

pub returns-clause-only : goal.returns-clause-only
returns-clause-only c = λ rest others behind other.
    one_literal _ _ _ others behind (literal_of c.args.style c.args.points.now rest (words c.args.points.now (λ i. c.type_inv.points i))) other
