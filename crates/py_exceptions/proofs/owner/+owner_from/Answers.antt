use Rattle.std.proofs.Common.{◌≡◌, ◌+◌, ◌-◌, ◌*◌, arith, false, true, nat_eq, refl}
use Rattle.std.specs.Prelude.{Ok, Some}
use Rattle.std.proofs.lemmas.Bool.Decides.{nat_tests}
use Rattle.std.proofs.lemmas.Result.{err_from_is_err_and}
use Rattle.process_memory.specs.Memory.{◌>>=◌, word_at}
use Rattle.process_memory.proofs.Reading.{reading_short, reads_end, reads_halt, reads_next, reads_same}
use Rattle.py_exceptions.specs.Owners.{owner_by_base, owner_from}
use Rattle.py_exceptions.proofs.Owning.{owner_on, owner_out}
use Rattle.py_exceptions.proofs.owner.+owner_from.Goals as goal

pub returns-then-left-eq0 : goal.returns-then-left-eq0
returns-then-left-eq0 g t c =
    reads_same (λ m. owner_from c.args.places.now m c.args.class c.args.own c.args.left) (λ m. Ok (Some c.args.class))
    (λ m. owner_out c.args.places.now m c.args.class c.args.own c.args.left c.if-left-eq0.true)
    (reads_end (2 * c.args.left) refl)

pub returns-in_err-next : goal.returns-in_err-next
returns-in_err-next g t c =
    let p = err_from_is_err_and c.from_residual.result c.from_residual.ensures.1 in
    rw p.1 (reads_same (λ m. owner_from c.args.places.now m c.args.class c.args.own c.args.left)
    (λ m. word_at m (c.args.class + c.args.places.now.base)
    >>= (λ next. owner_by_base c.args.places.now m c.args.class c.args.own next
    (owner_from c.args.places.now m next c.args.own (c.args.left - 1))))
    (λ m. owner_on c.args.places.now m c.args.class c.args.own c.args.left c.if-left-eq0.false)
    (reads_halt (2 * c.args.left) p.0 _ (reading_short c.in_err-next.ensures.answer) p.2.0
    (omega (arith, c.if-left-eq0.false))))

pub returns-then-next-eq0 : goal.returns-then-next-eq0
returns-then-next-eq0 g t c =
    let z : nat_eq c.in_ok-next.next 0 ≡ true = grind (arith, nat_tests, c.if-next-eq0.true) in
    reads_same (λ m. owner_from c.args.places.now m c.args.class c.args.own c.args.left)
    (λ m. word_at m (c.args.class + c.args.places.now.base)
    >>= (λ next. owner_by_base c.args.places.now m c.args.class c.args.own next
    (owner_from c.args.places.now m next c.args.own (c.args.left - 1))))
    (λ m. owner_on c.args.places.now m c.args.class c.args.own c.args.left c.if-left-eq0.false)
    (reads_next {k = 0} (2 * c.args.left) _ (reading_short c.in_ok-next.ensures.answer) (rw z (reads_end 0 refl))
    (omega (arith, c.if-left-eq0.false)))

pub returns-in_err-other : goal.returns-in_err-other
returns-in_err-other g t c =
    let z : nat_eq c.in_ok-next.next 0 ≡ false = grind (arith, nat_tests, c.if-next-eq0.false) in
    let p = err_from_is_err_and c.from_residual-in_err-other.result c.from_residual-in_err-other.ensures.1 in
    rw p.1 (reads_same (λ m. owner_from c.args.places.now m c.args.class c.args.own c.args.left)
    (λ m. word_at m (c.args.class + c.args.places.now.base)
    >>= (λ next. owner_by_base c.args.places.now m c.args.class c.args.own next
    (owner_from c.args.places.now m next c.args.own (c.args.left - 1))))
    (λ m. owner_on c.args.places.now m c.args.class c.args.own c.args.left c.if-left-eq0.false)
    (reads_next {k = 1} (2 * c.args.left) _ (reading_short c.in_ok-next.ensures.answer)
    (rw z (reads_halt 1 p.0 _ (reading_short c.in_err-other.ensures.answer) p.2.0 (omega arith)))
    (omega (arith, c.if-left-eq0.false))))

pub returns-then-other-own : goal.returns-then-other-own
returns-then-other-own g t c =
    let z : nat_eq c.in_ok-next.next 0 ≡ false = grind (arith, nat_tests, c.if-next-eq0.false) in
    let o : nat_eq c.in_ok-other.other c.args.own ≡ false = grind (arith, nat_tests, c.if-other-own.true) in
    reads_same (λ m. owner_from c.args.places.now m c.args.class c.args.own c.args.left)
    (λ m. word_at m (c.args.class + c.args.places.now.base)
    >>= (λ next. owner_by_base c.args.places.now m c.args.class c.args.own next
    (owner_from c.args.places.now m next c.args.own (c.args.left - 1))))
    (λ m. owner_on c.args.places.now m c.args.class c.args.own c.args.left c.if-left-eq0.false)
    (reads_next {k = 1} (2 * c.args.left) _ (reading_short c.in_ok-next.ensures.answer)
    (rw z (reads_next {k = 0} 1 _ (reading_short c.in_ok-other.ensures.answer) (rw o (reads_end 0 refl))
    (omega arith))) (omega (arith, c.if-left-eq0.false)))

pub returns : goal.returns
returns g t c =
    let z : nat_eq c.in_ok-next.next 0 ≡ false = grind (arith, nat_tests, c.if-next-eq0.false) in
    let o : nat_eq c.in_ok-other.other c.args.own ≡ true = grind (arith, nat_tests, c.if-other-own.false) in
    reads_same (λ m. owner_from c.args.places.now m c.args.class c.args.own c.args.left)
    (λ m. word_at m (c.args.class + c.args.places.now.base)
    >>= (λ next. owner_by_base c.args.places.now m c.args.class c.args.own next
    (owner_from c.args.places.now m next c.args.own (c.args.left - 1))))
    (λ m. owner_on c.args.places.now m c.args.class c.args.own c.args.left c.if-left-eq0.false)
    (reads_next {k = 1 + 2 * (c.args.left - 1)} (2 * c.args.left) _ (reading_short c.in_ok-next.ensures.answer)
    (rw z (reads_next {k = 2 * (c.args.left - 1)} (1 + 2 * (c.args.left - 1)) _
    (reading_short c.in_ok-other.ensures.answer)
    (rw o c.owner_from.ensures) (omega arith))) (omega (arith, c.if-left-eq0.false)))
