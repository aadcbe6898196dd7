use Rattle.process_memory.proofs.Reading.{reads_within}
use Rattle.py_stacks.proofs.Candidates.{reads_headless, test_costs, test_then}
use Rattle.py_stacks.proofs.interpreter.walk_interpreter.Goals as goal

pub returns-in-Err : goal.returns-in-Err
returns-in-Err g c =
    reads_within _ (reads_headless c.args.layout.now c.args.interpreter c.in-Err.ensures.answer c.refused_address.ensures) (test_costs _ _ _)

pub returns : goal.returns
returns g c = test_then c.args.layout.now c.args.interpreter c.in-Ok.head c.in-Ok.ensures.answer c.walk_from.ensures
