use Rattle.std.proofs.Common.{◌≡◌, arith, ap, false, true, eqb}
use Rattle.std.proofs.lemmas.Bool.Decides.{nat_tests}
use Rattle.process_memory.proofs.Reading.{reading_gives, reading_none, reading_then}
use Rattle.py_builtins.proofs.Consulted.{consulting_short}
use Rattle.py_reprs.proofs.Views.{tree-Absent}
use Rattle.py_reprs.proofs.Telling.{tells_is, typed_as}
use Rattle.py_reprs.specs.Levels.{level_at}
use Rattle.py_reprs.specs.LevelForms.{Whole}
use Rattle.py_reprs.proofs.levels.read_level.Goals as goal

pub returns-then-addr-eq0-clause-answer : goal.returns-then-addr-eq0-clause-answer
unfolding level_at
returns-then-addr-eq0-clause-answer g c =
    let is : eqb c.args.addr 0 ≡ true = grind (arith, nat_tests, c.if-addr-eq0.true) in
    reading_none _ _ _ (λ m. rw is (ap Whole tree-Absent))

pub returns-in-Ok-clause-answer : goal.returns-in-Ok-clause-answer
unfolding level_at
returns-in-Ok-clause-answer g c =
    let not : eqb c.args.addr 0 ≡ false = grind (arith, nat_tests, c.if-addr-eq0.false) in
    rw not (reading_gives _ _ (reading_then _ (consulting_short c.in-Ok.ensures) c.read_typed.ensures.answer
    (λ m a h. typed_as c.args.layout.now c.args.types.now c.args.limits.now m c.args.nodes c.args.addr _ _ a h))
    (omega arith) (λ m h. h))

pub returns-in-Err-clause-answer : goal.returns-in-Err-clause-answer
unfolding level_at
returns-in-Err-clause-answer g c =
    let not : eqb c.args.addr 0 ≡ false = grind (arith, nat_tests, c.if-addr-eq0.false) in
    rw not (reading_gives _ _ (consulting_short c.in-Err.ensures) (omega arith)
    (λ m a. tells_is c.args.layout.now c.args.types.now c.args.limits.now m c.args.nodes c.args.addr _ _ _ a
    c.tell.ensures))
