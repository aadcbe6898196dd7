use Rattle.std.proofs.Common.{◌+◌}
use Rattle.process_memory.specs.Memory.{word_at}
use Rattle.process_memory.proofs.Reading.{reading_short}
use Rattle.py_waits.specs.Words.{word_if}
use Rattle.py_waits.proofs.Known.{reads_known}
use Rattle.py_waits.proofs.words.word_if.Goals as goal

pub returns : goal.returns
unfolding word_if
returns g c =
    reads_known (λ m. word_at m (c.args.address + c.args.behind)) c.known.ensures
    (reading_short c.word_past.ensures.answer)
