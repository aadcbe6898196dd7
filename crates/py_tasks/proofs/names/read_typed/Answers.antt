use Rattle.std.proofs.Common.{arith, refl}
use Rattle.process_memory.proofs.Reading.{reads_end}
use Rattle.std.proofs.Common.{◌≡◌, ◌/◌, ◌%◌, ◌^◌, false, nat_eq}
use Rattle.std.proofs.lemmas.Bool.Decides.{nat_tests}
use Rattle.py_tasks.specs.Names.{typed_name_at}
use Rattle.py_tasks.proofs.names.read_typed.Goals as goal

pub returns : goal.returns
unfolding typed_name_at
returns g c =
    let text : nat_eq (c.args.flags / 2 ^ 28 % 2) 1 ≡ false = grind (arith, nat_tests, c.if-flags-eq1.false) in
    let long : nat_eq (c.args.flags / 2 ^ 24 % 2) 1 ≡ false = grind (arith, nat_tests, c.if-flags-eq1-2.false) in
    rw (text, long) (reads_end 2 refl)
