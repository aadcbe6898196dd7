use Rattle.std.proofs.Common.{◌≡◌, ◌/◌, ◌%◌, ◌^◌, arith, false, true, nat_eq, refl, sym, ap, ◌∙◌}
use Rattle.std.specs.Prelude.{codes}
use Rattle.std.proofs.lemmas.Bool.Decides.{nat_tests}
use Rattle.process_memory.proofs.Reading.{reads_end, reads_same, reads_within}
use Rattle.py_exceptions.specs.Values.{is_named, named_value_at, number_value_at}
use Rattle.py_exceptions.proofs.value.read_named.Goals as goal

pub returns-then-flags-eq1 : goal.returns-then-flags-eq1
unfolding named_value_at
returns-then-flags-eq1 g c =
    let is : nat_eq (c.args.flags / 2 ^ 24 % 2) 1 ≡ true = grind (arith, nat_tests, c.if-flags-eq1.true) in
    rw is (reads_same _ (λ m. number_value_at c.args.layout.now m c.is_named-is_truth.result c.args.addr)
    (λ m. ap (λ t. number_value_at c.args.layout.now m t c.args.addr) (sym c.is_named-is_truth.ensures))
    c.read_number_value.ensures)

pub returns-then-is_named : goal.returns-then-is_named
unfolding named_value_at
returns-then-is_named g c =
    let not : nat_eq (c.args.flags / 2 ^ 24 % 2) 1 ≡ false = grind (arith, nat_tests, c.if-flags-eq1.false) in
    let is : is_named (codes "float") c.args.name ≡ true = sym c.is_named.ensures ∙ c.if-is_named.true in
    rw (not, is) (reads_within 2 c.read_float_value.ensures (omega arith))

pub returns-then-is_named-2 : goal.returns-then-is_named-2
unfolding named_value_at
returns-then-is_named-2 g c =
    let not : nat_eq (c.args.flags / 2 ^ 24 % 2) 1 ≡ false = grind (arith, nat_tests, c.if-flags-eq1.false) in
    let other : is_named (codes "float") c.args.name ≡ false = sym c.is_named.ensures ∙ c.if-is_named.false in
    let is : is_named (codes "NoneType") c.args.name ≡ true = sym c.is_named-2.ensures ∙ c.if-is_named-2.true in
    rw (not, other, is) (reads_end 2 refl)

pub returns : goal.returns
unfolding named_value_at
returns g c =
    let not : nat_eq (c.args.flags / 2 ^ 24 % 2) 1 ≡ false = grind (arith, nat_tests, c.if-flags-eq1.false) in
    let other : is_named (codes "float") c.args.name ≡ false = sym c.is_named.ensures ∙ c.if-is_named.false in
    let more : is_named (codes "NoneType") c.args.name ≡ false = sym c.is_named-2.ensures ∙ c.if-is_named-2.false in
    rw (not, other, more) (reads_end 2 refl)
