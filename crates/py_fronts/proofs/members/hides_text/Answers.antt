use Rattle.std.proofs.Common.{refl, arith, rules}
use Rattle.process_memory.proofs.Reading.{reading_gives}
use Rattle.py_builtins.specs.Texts.{text_at}
use Rattle.py_builtins.proofs.Consulted.{consulting_short}
use Rattle.py_fronts.proofs.HiddenTexts.{not_hidden}
use Rattle.py_fronts.proofs.members.hides_text.Goals as goal

pub returns-in-Ok : goal.returns-in-Ok
returns-in-Ok g c = reading_gives 2 _ (consulting_short c.in-Ok.ensures.answer) (omega arith) (λ m a. rw a.is c.is_hidden.ensures)

pub returns-in-Err-OutOfMemory : goal.returns-in-Err-OutOfMemory
returns-in-Err-OutOfMemory g c = reading_gives 2 _ (consulting_short c.in-Err-OutOfMemory.ensures.answer) (omega arith) (λ m a. refl)

pub returns-in-Err : goal.returns-in-Err
returns-in-Err g c =
    reading_gives 2 _ (consulting_short c.in-Err.ensures.answer) (omega arith)
    (λ m a. not_hidden (text_at c.args.layout.now m c.args.addr) c.in-Err.field-0 (search rules) a)
