use Rattle.std.proofs.Common.{◌≡◌, ◌+◌, length, min, arith, ap, ◌∙◌}
use Rattle.elf64_core.specs.Notes.{padded}
use Rattle.elf64_core.proofs.Notes.{IsPlaced-from_note, IsNote-by, desc_start, desc_end, note_end}
use Rattle.elf64_core.proofs.note.first_note.Goals as goal

pub returns-then-bytes-end : goal.returns-then-bytes-end
returns-then-bytes-end c = λ note rest h.
    let p = IsPlaced-from_note c.args.bytes.now rest note h in
    let start = c.padded-start.ensures ∙ ap padded c.u32_in.ensures in
    omega (arith, p.fits, start, c.u32_in-size.ensures)

pub returns : goal.returns
returns c =
    let bytes = c.args.bytes.now in
    let start : 12 + c.padded-start.result ≡ desc_start bytes =
    ap (λ n. 12 + n) (c.padded-start.ensures ∙ ap padded c.u32_in.ensures) in
    let end : 12 + c.padded-start.result + c.u32_in-size.result ≡ desc_end bytes = omega (arith, start, c.u32_in-size.ensures) in
    let past : 12 + c.padded-start.result + c.padded.result ≡ note_end bytes =
    omega (arith, start, c.padded.ensures ∙ ap padded c.u32_in-size.ensures) in
    IsNote-by bytes c.u32_in-2.result _ _ c.min-after.result (omega arith) (omega arith) c.u32_in-2.ensures start end
    (c.min-after.ensures ∙ ap (min (length bytes)) past)
