use Rattle.std.proofs.Common.{arith, subst}
use Rattle.std.proofs.Math.Nat.{le_refl}
use Rattle.process_memory.proofs.Reading.{reading_gives}
use Rattle.py_process.specs.Facts.{known_of}
use Rattle.py_process.proofs.Sections.{searching}
use Rattle.py_process.specs.Sources.{FirstTells, ToldBy, number_or, other_sources, sources_of}
use Rattle.py_process.specs.Sources.VersionSource.{Number}
use Rattle.py_process.proofs.Telling.{told_one}
use Rattle.py_process.proofs.python_version.read_sources.Goals as goal

pub returns-in-Some : goal.returns-in-Some
unfolding sources_of
returns-in-Some g c =
    reading_gives 3 _ (searching (known_of c.args.info.now) c.read_number.ensures) (omega arith) (λ m t. subst (λ s. ToldBy (FirstTells m (number_or s (other_sources (known_of c.args.info.now)))) c.read_number.result) c.in-Some.ensures
    (told_one m (Number c.in-Some.addr) c.read_number.result t))

pub returns-in-None : goal.returns-in-None
unfolding sources_of
returns-in-None g c =
    reading_gives 3 _ c.read_others.ensures (le_refl _) (λ m t. subst (λ s. ToldBy (FirstTells m (number_or s (other_sources (known_of c.args.info.now)))) c.read_others.result) c.in-None.ensures t)
