use Rattle.std.proofs.Math.Nat.{le_refl}
use Rattle.process_memory.proofs.Reading.{reading_gives, reading_none}
use Rattle.py_process.proofs.Telling.{no_symbol, told_symbol}
use Rattle.py_process.proofs.python_version.read_symbol.Goals as goal

pub returns-in-Some : goal.returns-in-Some
returns-in-Some g c =
    reading_gives 1 _ c.read_version_text.ensures (le_refl _) (λ m t. told_symbol m c.args.addr c.in-Some.addr c.read_version_text.result c.in-Some.is t)

pub returns-in-None : goal.returns-in-None
returns-in-None g c = reading_none 1 _ _ (λ m. no_symbol m c.args.addr c.in-None.is)
