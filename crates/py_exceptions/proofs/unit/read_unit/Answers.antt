use Rattle.std.proofs.Common.{◌≡◌, ◌^◌, arith, refl, true, false, nat_lt}
use Rattle.std.proofs.lemmas.Bool.Decides.{nat_tests}
use Rattle.process_memory.proofs.Reading.{reading_none}
use Rattle.py_exceptions.specs.Units.{unit_at}
use Rattle.py_exceptions.proofs.Tells.{reads_or_none}
use Rattle.py_exceptions.proofs.unit.read_unit.Goals as goal

pub returns-then-number-lt-NEGATIVE : goal.returns-then-number-lt-NEGATIVE
unfolding unit_at
returns-then-number-lt-NEGATIVE g c =
    let within : nat_lt c.args.number (2 ^ 63) ≡ true = grind (arith, nat_tests, c.if-number-lt-NEGATIVE.true) in
    rw within (reads_or_none _ c.read_found.ensures c.or_none.ensures)

pub returns : goal.returns
unfolding unit_at
returns g c =
    let past : nat_lt c.args.number (2 ^ 63) ≡ false = grind (arith, nat_tests, c.if-number-lt-NEGATIVE.false) in
    reading_none 4 _ _ (λ m. rw past refl)
