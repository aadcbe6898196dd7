use Rattle.std.proofs.Common.{◌≡◌, ◌∙◌, ◌+◌, ◌++◌, List, ℕ, ap, ap₂, map, subst, sym, arith}
use Rattle.std.specs.Prelude.{IfOk}
use Rattle.std.specs.List.{AllByRecursion, sum_by}
use Rattle.py_stacks.specs.Lines.{family_of}
use Rattle.memory_builder.specs.declared.parts.ProgramFrame.{ProgramFrame}
use Rattle.memory_builder.specs.Chains.{head_of, laid_chain}
use Rattle.memory_builder.specs.Frames.{laid_frame}
use Rattle.memory_builder.specs.Mirror.{frame_in, program_thread}
use Rattle.object_builder.specs.Objects.{aligned, object}
use Rattle.memory_builder.specs.Sizes.{frame_size, rounded, thread_size}
use Rattle.memory_builder.specs.Threads.{cframe_place, frame_field, frames_place, laid_cframe, laid_thread}
use Rattle.memory_builder.specs.Threads.{thread_object, thread_writes}
use Rattle.memory_builder.specs.Validity.{IsValidFrame}
use Rattle.memory_builder.proofs.Adding.{three_added}
use Rattle.memory_builder.proofs.threads.add_thread.Goals as goal

pub overflow_add-frames_at : goal.overflow_add-frames_at
unfolding thread_size
overflow_add-frames_at c =
    let record_is = c.rounded.ensures.value ∙ ap rounded c.from.ensures in
    omega (arith, record_is, c.cframe_size.ensures.value, c.requires.fits)

pub add_frames-requires-clause-valid : goal.add_frames-requires-clause-valid
add_frames-requires-clause-valid c =
    subst (λ (xs : List ProgramFrame). AllByRecursion (IsValidFrame (family_of c.args.layout.now.lines))
    (map frame_in xs)) (sym c.deref-2.ensures.value) c.requires.valid

pub add_frames-requires-clause-fits : goal.add_frames-requires-clause-fits
unfolding thread_size
add_frames-requires-clause-fits c =
    let l = c.args.layout.now in
    let record_is = c.rounded.ensures.value ∙ ap rounded c.from.ensures in
    let frames = ap (λ xs. sum_by (frame_size l) (map frame_in xs)) c.deref-2.ensures.value in
    omega (arith, record_is, c.cframe_size.ensures.value, frames, c.requires.fits)

pub returns : goal.returns
unfolding laid_thread
returns c =
    let l = c.args.layout.now in
    let t = program_thread c.args.thread.now in
    let record_is : c.rounded.result ≡ rounded l.thread.size = c.rounded.ensures.value ∙ ap rounded c.from.ensures in
    let cframe_is : c.args.at + c.rounded.result ≡ cframe_place l c.args.at = ap (λ n. c.args.at + n) record_is in
    let frames_is : c.args.at + c.rounded.result + c.cframe_size.result ≡ frames_place l c.args.at =
    ap₂ (λ n k. n + k) cframe_is c.cframe_size.ensures.value in
    let first = head_of (frames_place l c.args.at) t.frames in
    let first_is : c.frames_head-first.result ≡ first = c.frames_head-first.ensures
    ∙ ap₂ (λ n xs. head_of n (map frame_in xs)) frames_is c.deref.ensures.value in
    let field_is : c.frame_field-frame.result ≡ frame_field l.cframe (cframe_place l c.args.at) first =
    c.frame_field-frame.ensures ∙ ap₂ (λ n k. frame_field l.cframe n k) cframe_is first_is in
    three_added c.add_frames.result c.add_frames.new.out.items c.args.out.now.items c.add_thread_record.new.out.items
    c.add_cframe.new.out.items
    (aligned (thread_object l c.args.interp c.args.at c.args.next t)) (laid_cframe l.cframe first)
    (laid_chain (frame_size l) (laid_frame l c.args.types) (frames_place l c.args.at) t.frames)
    (c.in_ok-add_thread_record.ensures ∙ ap (λ n. c.args.out.now.items
    ++ aligned (object l.thread.size (thread_writes l c.args.next c.args.interp t.id n))) field_is)
    (c.in_ok-add_cframe.ensures ∙ ap (λ n. c.add_thread_record.new.out.items ++ laid_cframe l.cframe n) first_is)
    (subst (λ (n : ℕ). IfOk c.add_frames.result (λ _. c.add_frames.new.out.items ≡ c.add_cframe.new.out.items
    ++ laid_chain (frame_size l) (laid_frame l c.args.types) n t.frames)) frames_is
    (subst (λ (xs : List ProgramFrame). IfOk c.add_frames.result
    (λ _. c.add_frames.new.out.items ≡ c.add_cframe.new.out.items
    ++ laid_chain (frame_size l) (laid_frame l c.args.types) (c.args.at + c.rounded.result + c.cframe_size.result)
    (map frame_in xs))) c.deref-2.ensures.value c.add_frames.ensures))
