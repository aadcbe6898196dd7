use Rattle.std.proofs.Math.Nat.{le_refl}
use Rattle.process_memory.proofs.Reading.{reading_gives}
use Rattle.py_stacks.proofs.NamedLaws.{names_held}
use Rattle.py_stacks.proofs.named_stacks.read_name_map.Goals as goal

pub returns-in-Ok : goal.returns-in-Ok
returns-in-Ok g c = reading_gives _ _ c.in-Ok.ensures.names (le_refl _) (λ m a. record { is = names_held _ c.in-Ok.names a.is })
