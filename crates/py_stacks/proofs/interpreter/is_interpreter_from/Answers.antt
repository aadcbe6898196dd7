use Rattle.std.proofs.Math.Nat.{le_trans}
use Rattle.process_memory.proofs.Reading.{reading_gives}
use Rattle.py_stacks.proofs.Candidates.{from_law, from_most, from_within}
use Rattle.py_stacks.proofs.interpreter.is_interpreter_from.Goals as goal

pub returns-clause-answer : goal.returns-clause-answer
returns-clause-answer g c = reading_gives _ _ c.walk_from.ensures (from_within _ _ _ _) (λ m a. a)

pub returns-clause-exact : goal.returns-clause-exact
returns-clause-exact g c = reading_gives _ _ c.walk_from.ensures (from_within _ _ _ _) (λ m a. from_law c.args.layout.now m c.args.interpreter c.args.head c.walk_from.result a)

pub returns-clause-most : goal.returns-clause-most
returns-clause-most g c =
    reading_gives _ _ c.walk_from.ensures (le_trans (from_within _ _ _ _) (from_most _ _ _ _)) (λ m a. a)
