use Rattle.std.proofs.Common.{ap, arith}
use Rattle.process_memory.proofs.Reading.{reading_gives}
use Rattle.py_exceptions.specs.Frames.{entry_at, entry_with}
use Rattle.py_exceptions.proofs.FrameSteps.{reads_frame}
use Rattle.py_exceptions.proofs.entry.read_entry.Goals as goal

pub returns : goal.returns
unfolding entry_at
returns g c = reading_gives 10 _ (reads_frame _ c.read_found-found.ensures c.in_ok-frame.ensures) (omega arith)
    (λ m h. ap (entry_with c.args.at) h)
