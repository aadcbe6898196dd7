use Rattle.std.proofs.Common.{◌≡◌, length, nat_lt, true, arith, refl}
use Rattle.std.proofs.lemmas.Bool.Decides.{nat_tests}
use Rattle.process_memory.proofs.Reading.{reads_end}
use Rattle.py_tasks.specs.Tasks.{few_at}
use Rattle.py_tasks.proofs.tasks.read_few.Goals as goal

pub returns-then-addresses-gt-TASK_LIMIT : goal.returns-then-addresses-gt-TASK_LIMIT
unfolding few_at
returns-then-addresses-gt-TASK_LIMIT g c =
    let many : nat_lt 65536 (length c.args.addresses.now) ≡ true = grind (arith, nat_tests) in
    rw many (reads_end 1103626240 refl)
