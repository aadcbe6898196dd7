use Rattle.std.proofs.Common.{◌++◌, ◌-◌, ◌%◌, length, refl, ap, ◌∙◌, append_assoc, take}
use Rattle.std.specs.Prelude.{replicate}
use Rattle.core_slim.proofs.Pieces.{fills}
use Rattle.core_slim.proofs.writing.add_filled.Goals as goal

pub returns : goal.returns
returns c =
    let notes = c.args.notes.now in
    let old = c.args.bytes.now.items in
    let missing = (4 - length notes % 4) % 4 in
    c.in_ok-extend_from_slice-2.ensures.items
    ∙ ap (λ b. b ++ take missing (replicate 3 0)) c.in_ok-extend_from_slice.ensures.items
    ∙ append_assoc old notes (take missing (replicate 3 0))
    ∙ ap (λ b. old ++ b) (fills notes missing refl)
