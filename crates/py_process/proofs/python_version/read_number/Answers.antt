use Rattle.std.proofs.Common.{arith}
use Rattle.process_memory.proofs.Reading.{reading_gives}
use Rattle.py_process.proofs.Telling.{number_told}
use Rattle.process_memory.proofs.Reading.{reading_short}
use Rattle.py_process.proofs.python_version.read_number.Goals as goal

pub returns : goal.returns
returns g c =
    reading_gives 1 _ (reading_short c.in_ok-record_in.ensures.answer) (omega arith)
    (λ m a. number_told m c.args.addr c.record_in.new.buf c.from_le_bytes.result c.in_ok-version.version c.from_le_bytes.ensures c.in_ok-version.ensures a)
