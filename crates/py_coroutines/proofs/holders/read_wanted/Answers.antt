use Rattle.std.proofs.Common.{◌≡◌, ap, arith, nat_eq, refl, sym, true, false}
use Rattle.std.proofs.lemmas.Bool.Decides.{nat_tests}
use Rattle.std.proofs.lemmas.Result.{err_from_is_err_and}
use Rattle.process_memory.proofs.Reading.{reading_short, reads_end, reads_halt, reads_next, reads_same}
use Rattle.process_memory.specs.Seen.{read_fault}
use Rattle.py_coroutines.proofs.HolderSteps.{wanted_any, wanted_class, wanted_future, wanted_none}
use Rattle.py_coroutines.proofs.holders.read_wanted.Goals as goal

pub returns-then-held-eq0 : goal.returns-then-held-eq0
returns-then-held-eq0 g c = reads_same _ _
    (λ m. wanted_none c.args.places.now m c.args.at c.args.class c.args.held c.args.wants c.if-held-eq0.true) (reads_end 1 refl)

pub returns-in-Any : goal.returns-in-Any
returns-in-Any g c = rw c.in-Any.is (reads_same _ _
    (λ m. wanted_any c.args.places.now m c.args.at c.args.class c.args.held c.if-held-eq0.false) (reads_end 1 refl))

pub returns-in-Future : goal.returns-in-Future
returns-in-Future g c = rw c.in-Future.is (reads_same _ _
    (λ m. wanted_future c.args.places.now m c.args.at c.args.class c.args.held c.if-held-eq0.false) (reads_end 1 refl))

pub returns-in_err-own-in-Class : goal.returns-in_err-own-in-Class
returns-in_err-own-in-Class g c =
    let p = err_from_is_err_and c.from_residual.result c.from_residual.ensures.1 in
    rw (p.1, c.in-Class.is) (reads_same _ _
    (λ m. wanted_class c.args.places.now m c.args.at c.args.class c.args.held c.in-Class.wanted c.if-held-eq0.false)
    (reads_halt 1 p.0 _ (reading_short c.in_err-own-in-Class.ensures.answer) (ap read_fault p.2) (omega arith)))

pub returns-then-own-wanted : goal.returns-then-own-wanted
returns-then-own-wanted g c =
    let is : nat_eq c.in_ok-own-in-Class.own c.in-Class.wanted ≡ true = grind (arith, nat_tests, c.if-own-wanted.true) in
    rw c.in-Class.is (reads_same _ _
    (λ m. wanted_class c.args.places.now m c.args.at c.args.class c.args.held c.in-Class.wanted c.if-held-eq0.false)
    (reads_next {k = 0} 1 _ (reading_short c.in_ok-own-in-Class.ensures.answer) (reads_end 0 (rw is refl)) (omega arith)))

pub returns-else-own-wanted : goal.returns-else-own-wanted
returns-else-own-wanted g c =
    let is : nat_eq c.in_ok-own-in-Class.own c.in-Class.wanted ≡ false = grind (arith, nat_tests, c.if-own-wanted.false) in
    rw c.in-Class.is (reads_same _ _
    (λ m. wanted_class c.args.places.now m c.args.at c.args.class c.args.held c.in-Class.wanted c.if-held-eq0.false)
    (reads_next {k = 0} 1 _ (reading_short c.in_ok-own-in-Class.ensures.answer) (reads_end 0 (rw is refl)) (omega arith)))
