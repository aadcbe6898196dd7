use Rattle.std.proofs.Common.{arith}
use Rattle.process_memory.proofs.Reading.{reads_next}
use Rattle.thread_names.specs.Own.{name_at}
use Rattle.thread_names.proofs.own.read_name.Goals as goal

pub returns : goal.returns
unfolding name_at
returns g c = reads_next 1035 _ c.in_ok-found.ensures c.text_if.ensures (omega arith)
