use Rattle.std.proofs.Common.{◌≡◌, nat_eq, true, false, arith, sym, ap}
use Rattle.std.specs.Prelude.{Some}
use Rattle.std.proofs.lemmas.Bool.Decides.{nat_tests}
use Rattle.process_memory.proofs.Reading.{reads_end}
use Rattle.py_tasks.proofs.frameworks.read_by_modules.Goals as goal

pub returns-then-modules-eq0 : goal.returns-then-modules-eq0
returns-then-modules-eq0 g c =
    let none : nat_eq c.args.modules 0 ≡ true = grind (arith, nat_tests) in
    rw none (reads_end 262147 (sym (ap (λ x. Some x) c.frameworks_of.ensures)))

pub returns : goal.returns
returns g c =
    let some : nat_eq c.args.modules 0 ≡ false = grind (arith, nat_tests) in
    rw some c.read_in.ensures
