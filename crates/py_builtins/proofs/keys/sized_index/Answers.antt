use Rattle.elf64_core.specs.Fields.{u8_in}
use Rattle.py_builtins.specs.Dicts.{sized_index}
use Rattle.py_builtins.proofs.keys.sized_index.Goals as goal

pub returns-in-Some-Some-clause-answer : goal.returns-in-Some-Some-clause-answer
unfolding sized_index u8_in
returns-in-Some-Some-clause-answer c = rw (c.in-Some-Some.is-0, c.in-Some-Some.is-1) c.index_of_log2.ensures.answer
