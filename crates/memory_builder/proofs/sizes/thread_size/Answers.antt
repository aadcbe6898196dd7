use Rattle.std.proofs.Common.{◌≡◌, ◌∙◌, ◌+◌, List, ap, map, subst, sym, arith, ℕ}
use Rattle.std.specs.List.{sum_by}
use Rattle.memory_builder.specs.declared.parts.ProgramFrame.{ProgramFrame}
use Rattle.memory_builder.specs.Mirror.{frame_in}
use Rattle.memory_builder.specs.Sizes.{capped, cframe_size, frame_size, rounded, thread_size}
use Rattle.py_stacks.specs.Lines.{family_of}
use Rattle.memory_builder.specs.Validity.{IsValidCall}
use Rattle.memory_builder.proofs.Records.{added_once}
use Rattle.memory_builder.proofs.Sums.{fits_capped}
use Rattle.memory_builder.proofs.sizes.thread_size.Goals as goal

pub frames_size-requires-clause-valid : goal.frames_size-requires-clause-valid
frames_size-requires-clause-valid c =
    subst (λ (xs : List ProgramFrame). (k : ℕ) → IsValidCall (family_of c.args.layout.now.lines) (map frame_in xs) k)
    (sym c.deref.ensures.value) c.requires.valid

pub returns : goal.returns
unfolding thread_size
returns c =
    let l = c.args.layout.now in
    let record_is : c.rounded.result + c.cframe_size.result ≡ rounded l.thread.size + cframe_size l.cframe =
    ap (λ n. n + c.cframe_size.result) (c.rounded.ensures.value ∙ ap rounded c.from.ensures)
    ∙ ap (λ n. rounded l.thread.size + n) c.cframe_size.ensures.value in
    let fits = fits_capped (rounded l.thread.size + cframe_size l.cframe)
    (omega (
      arith,
      record_is,
      c.rounded.ensures.bound,
      c.from.ensures,
      c.cframe_size.ensures.bound,
      c.requires.sound.thread.short,
    )) in
    added_once (rounded l.thread.size + cframe_size l.cframe)
    (sum_by (frame_size l) (map frame_in c.args.thread.now.frames.items))
    (c.rounded.result + c.cframe_size.result) c.in_ok-frames.frames c.saturating_add.result
    (record_is ∙ fits) (c.in_ok-frames.ensures ∙ ap (λ xs. capped (sum_by (frame_size l) (map frame_in xs)))
    c.deref.ensures.value) c.saturating_add.ensures
