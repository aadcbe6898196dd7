use Rattle.process_memory.proofs.Reading.{reading_none}
use Rattle.py_process.specs.Facts.{known_of}
use Rattle.py_process.proofs.Heads.{no_interp_head}
use Rattle.py_process.proofs.head.read_head.Goals as goal

pub returns-in-None : goal.returns-in-None
returns-in-None g c = reading_none _ _ _ (λ m. no_interp_head (known_of c.args.info.now) c.args.version.now
    c.args.layout.now m c.in-Symbol.is c.in-None.ensures)
