use Rattle.std.proofs.Common.{◌≡◌, nat_eq, true, arith, refl}
use Rattle.std.proofs.lemmas.Bool.Decides.{nat_tests}
use Rattle.process_memory.proofs.Reading.{reads_end}
use Rattle.py_tasks.specs.Waiters.{waiter_at}
use Rattle.py_tasks.proofs.waiter.read_waiter.Goals as goal

pub returns-then-address-eq0 : goal.returns-then-address-eq0
unfolding waiter_at
returns-then-address-eq0 g c =
    let none : nat_eq c.args.address 0 ≡ true = grind (arith, nat_tests) in
    rw none (reads_end 69 refl)
