use Rattle.std.proofs.Math.Nat.{le_trans}
use Rattle.process_memory.proofs.Reading.{reading_gives}
use Rattle.py_stacks.proofs.Candidates.{passes_law, test_within, test_most}
use Rattle.py_stacks.proofs.interpreter.is_interpreter.Goals as goal

pub returns-clause-answer : goal.returns-clause-answer
returns-clause-answer g c = reading_gives _ _ c.walk_interpreter.ensures (test_within _ _ _) (λ m a. a)

pub returns-clause-exact : goal.returns-clause-exact
returns-clause-exact g c = reading_gives _ _ c.walk_interpreter.ensures (test_within _ _ _) (λ m a. passes_law c.args.layout.now m c.args.interpreter c.walk_interpreter.result a)

pub returns-clause-most : goal.returns-clause-most
returns-clause-most g c = reading_gives _ _ c.walk_interpreter.ensures (le_trans (test_within _ _ _) (test_most _ _ _)) (λ m a. a)
