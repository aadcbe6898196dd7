use Rattle.py_builtins.specs.Consulted.IsWidth.{Word}
use Rattle.py_builtins.specs.Items.{item_at}
use Rattle.py_builtins.proofs.Consulted.{reads_field}
use Rattle.py_builtins.proofs.items.read_item.Goals as goal

pub returns-clause-answer : goal.returns-clause-answer
unfolding item_at
returns-clause-answer g c = reads_field Word c.word_wide.ensures.answer
