use Rattle.std.proofs.Common.{ap, sym, refl, ◌∙◌}
use Rattle.process_memory.proofs.Reading.{reads_end, reads_same}
use Rattle.py_selftest.specs.Telling.{member_placed}
use Rattle.py_selftest.proofs.telling.member_told.Goals as goal

pub returns-in-Some : goal.returns-in-Some
unfolding member_placed
returns-in-Some g c =
    reads_same _ _ (λ m. ap (member_placed m c.args.name.now c.args.width) (sym c.type_placed.ensures ∙ c.in-Some.is))
    c.member_place.ensures

pub returns-in-None : goal.returns-in-None
unfolding member_placed
returns-in-None g c =
    reads_same _ _ (λ m. ap (member_placed m c.args.name.now c.args.width) (sym c.type_placed.ensures ∙ c.in-None.is))
    (reads_end 1025 refl)
