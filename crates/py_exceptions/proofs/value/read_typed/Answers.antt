use Rattle.std.proofs.Common.{◌≡◌, ◌/◌, ◌%◌, ◌^◌, arith, false, true, nat_eq, sym, ap, ◌∙◌}
use Rattle.std.proofs.lemmas.Bool.Decides.{nat_tests}
use Rattle.std.proofs.lemmas.Result.{err_from_is_err_and}
use Rattle.process_memory.proofs.Reading.{reading_short, reads_halt, reads_known, reads_next, reads_same, reads_within}
use Rattle.py_builtins.proofs.Consulted.{consulting_short}
use Rattle.py_names.specs.NamesError.{names_fault}
use Rattle.py_exceptions.specs.ClassNames.{class_name}
use Rattle.py_exceptions.specs.Values.{named_value_at, typed_value_at}
use Rattle.py_exceptions.proofs.value.read_typed.Goals as goal

pub returns-then-class-eq1 : goal.returns-then-class-eq1
unfolding typed_value_at
returns-then-class-eq1 g c =
    let is : nat_eq (c.args.class.now.flags / 2 ^ 28 % 2) 1 ≡ true = grind (arith, nat_tests, c.if-class-eq1.true) in
    rw is (reads_within 3 (consulting_short c.read_text_value.ensures) (omega arith))

pub returns-in_err-chars : goal.returns-in_err-chars
unfolding typed_value_at
returns-in_err-chars g c =
    let not : nat_eq (c.args.class.now.flags / 2 ^ 28 % 2) 1 ≡ false = grind (arith, nat_tests, c.if-class-eq1.false) in
    let p = err_from_is_err_and c.from_residual.result c.from_residual.ensures.1 in
    rw (not, p.1) (reads_halt 3 p.0 _ (reading_short c.in_err-chars.ensures.answer) p.2.0 (omega arith))

pub returns-in_err-name : goal.returns-in_err-name
unfolding typed_value_at
returns-in_err-name g c =
    let not : nat_eq (c.args.class.now.flags / 2 ^ 28 % 2) 1 ≡ false = grind (arith, nat_tests, c.if-class-eq1.false) in
    let p = err_from_is_err_and c.from_residual-in_err-name.result c.from_residual-in_err-name.ensures.1 in
    rw (not, p.1) (reads_next {k = 0} 3 _ (reading_short c.in_ok-chars.ensures.answer)
    (reads_known 0 _ _ (λ m. record { is = rw (ap names_fault p.2) tt })) (omega arith))

pub returns : goal.returns
unfolding typed_value_at
returns g c =
    let not : nat_eq (c.args.class.now.flags / 2 ^ 28 % 2) 1 ≡ false = grind (arith, nat_tests, c.if-class-eq1.false) in
    let name = sym (c.in_ok-name.ensures ∙ ap (λ xs. class_name xs) c.deref.ensures.value) in
    rw not (reads_next 3 _ (reading_short c.in_ok-chars.ensures.answer) (reads_same _
    (λ m. named_value_at c.args.layout.now m c.args.class.now.flags c.in_ok-name.name c.args.addr)
    (λ m. ap (λ n. named_value_at c.args.layout.now m c.args.class.now.flags n c.args.addr) name)
    c.read_named.ensures) (omega arith))
