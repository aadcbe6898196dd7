use Rattle.std.proofs.Math.Nat.{le_refl}
use Rattle.process_memory.proofs.Reading.{reading_gives, reading_none, reading_wider}
use Rattle.py_process.proofs.Sections.{bss_in}
use Rattle.py_process.proofs.Telling.{no_bss, told_bss}
use Rattle.py_process.proofs.python_version.read_bss.Goals as goal

pub returns-in-Some : goal.returns-in-Some
returns-in-Some g c =
    reading_gives 1 _ (reading_wider _ c.read_section.ensures (bss_in c.args.binary.now c.in-Some.binary c.in-Some.is)) (le_refl _) (λ m t. told_bss m c.args.binary.now c.in-Some.binary c.read_section.result c.in-Some.is t)

pub returns-in-None : goal.returns-in-None
returns-in-None g c = reading_none 1 _ _ (λ m. no_bss m c.args.binary.now c.in-None.is)
