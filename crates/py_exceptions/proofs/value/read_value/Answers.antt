use Rattle.std.proofs.Common.{◌≡◌, arith, false, true, nat_eq, refl}
use Rattle.std.proofs.lemmas.Bool.Decides.{nat_tests}
use Rattle.process_memory.proofs.Reading.{reading_none}
use Rattle.py_exceptions.specs.Values.{value_told_at}
use Rattle.py_exceptions.proofs.Tells.{reads_or_none}
use Rattle.py_exceptions.proofs.value.read_value.Goals as goal

pub returns-then-addr-eq0 : goal.returns-then-addr-eq0
unfolding value_told_at
returns-then-addr-eq0 g c =
    let is : nat_eq c.args.addr 0 ≡ true = grind (arith, nat_tests, c.if-addr-eq0.true) in
    reading_none 5 _ _ (λ m. rw is refl)

pub returns : goal.returns
unfolding value_told_at
returns g c =
    let not : nat_eq c.args.addr 0 ≡ false = grind (arith, nat_tests, c.if-addr-eq0.false) in
    rw not (reads_or_none _ c.read_object.ensures c.or_none.ensures)
