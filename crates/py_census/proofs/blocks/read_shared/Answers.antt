use Rattle.std.proofs.Common.{◌≡◌, true, nat_eq, refl, arith}
use Rattle.std.proofs.lemmas.Bool.Decides.{nat_tests}
use Rattle.process_memory.proofs.Reading.{reading_none}
use Rattle.py_census.proofs.blocks.read_shared.Goals as goal

pub returns-then-keys-eq0 : goal.returns-then-keys-eq0
returns-then-keys-eq0 g c =
    let e : nat_eq c.args.keys 0 ≡ true = grind (arith, nat_tests, c.if-keys-eq0.true) in
    reading_none _ _ _ (λ m. rw e refl)
