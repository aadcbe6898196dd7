use Rattle.std.proofs.Common.{arith}
use Rattle.process_memory.proofs.Reading.{reading_gives}
use Rattle.thread_names.specs.Keys.{keys_of}
use Rattle.thread_names.proofs.KeySteps.{keys_all}
use Rattle.thread_names.proofs.keys.read_keys.Goals as goal

pub returns : goal.returns
returns g c =
    reading_gives 262144 _ c.in_ok-keys.ensures.answer (omega arith)
    (λ m e. keys_all c.args.layout.now m c.args.dict.now.slots c.remaining-count.result c.min-looked.result
    (keys_of c.in_ok-keys.keys) e c.min-looked.ensures (omega (arith, c.remaining-count.ensures, c.requires.start)))
