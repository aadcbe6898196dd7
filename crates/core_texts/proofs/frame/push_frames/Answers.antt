use Rattle.std.proofs.Common.{◌≡◌, ◌∙◌, ◌++◌, ◌<◌, arith, length, take, sym, ap, append_assoc, string_bytes, get_or}
use Rattle.core_texts.specs.Text.{frame_text, frames_text}
use Rattle.core_texts.proofs.Texts.{more_parts}
use Rattle.core_texts.proofs.frame.push_frames.Goals as goal

pub loop-frame-preserved : goal.loop-frame-preserved
loop-frame-preserved c =
    let frames = c.args.frames.now in
    let i = c.loop-frame.frame-index in
    let frame = c.frame-item.result in
    let before = string_bytes c.args.text.now in
    let front = frames_text (take i frames) in
    let lt : i < length frames = omega arith in
    let is : frame ≡ get_or frames i frame = c.frame-item.is in
    c.in_ok-push_frame.ensures ∙ ap (λ t. t ++ frame_text frame) c.loop-frame.invariant
    ∙ append_assoc before front (frame_text frame)
    ∙ ap (λ t. before ++ t) (ap (λ f. front ++ frame_text f) is ∙ sym (more_parts (λ f. frame_text f) frames i frame lt))
