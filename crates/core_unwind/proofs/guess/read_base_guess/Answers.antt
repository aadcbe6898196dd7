use Rattle.std.proofs.Common.{◌≡◌, ◌∙◌, false, refl, sym}
use Rattle.process_memory.proofs.Reading.{reading_none}
use Rattle.core_unwind.specs.Marks.{is_uncovered}
use Rattle.core_unwind.proofs.guess.read_base_guess.Goals as goal

pub returns-then-not-is_uncovered : goal.returns-then-not-is_uncovered
returns-then-not-is_uncovered g c =
    let not : is_uncovered c.args.stack.now.end ≡ false = sym c.is_uncovered.ensures ∙ c.if-not-is_uncovered.true in
    reading_none 2 _ _ (λ m. rw not refl)
