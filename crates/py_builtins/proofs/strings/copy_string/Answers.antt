use Rattle.std.proofs.Common.{arith}
use Rattle.process_memory.proofs.Reading.{reading_gives}
use Rattle.py_builtins.proofs.Texts.{text_answer, found_answer}
use Rattle.py_builtins.proofs.strings.copy_string.Goals as goal

pub returns-clause-text : goal.returns-clause-text
returns-clause-text g c = reading_gives 2 _ c.read_text.ensures.answer (omega arith) (λ m h. text_answer c.args.layout.now m c.args.addr c.read_text.result h)

pub returns-clause-found : goal.returns-clause-found
returns-clause-found g c = reading_gives 2 _ c.read_text.ensures.answer (omega arith) (λ m h. found_answer c.args.layout.now m c.args.addr c.read_text.result h)
