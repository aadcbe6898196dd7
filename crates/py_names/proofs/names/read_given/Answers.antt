use Rattle.std.proofs.Common.{refl}
use Rattle.process_memory.proofs.Reading.{reads_end}
use Rattle.py_names.specs.Names.{thread_in}
use Rattle.py_names.proofs.names.read_given.Goals as goal

pub returns-in-Empty-clause-answer : goal.returns-in-Empty-clause-answer
unfolding thread_in
returns-in-Empty-clause-answer g c = rw c.in-Empty.is (reads_end _ refl)

pub returns-in-Entry-clause-answer : goal.returns-in-Entry-clause-answer
unfolding thread_in
returns-in-Entry-clause-answer g c = rw c.in-Entry.is c.read_entry.ensures.answer
