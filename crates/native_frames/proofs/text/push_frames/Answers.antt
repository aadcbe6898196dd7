use Rattle.std.proofs.Common.{◌∙◌, ◌++◌, ap, append-nil, sym, string_bytes}
use Rattle.std.proofs.lemmas.List.{at_drop_all}
use Rattle.native_frames.specs.Text.{frame_text, frames_text}
use Rattle.native_frames.proofs.Rest.{next, part_more}
use Rattle.native_frames.proofs.text.push_frames.Goals as goal

pub loop-frame-preserved : goal.loop-frame-preserved
loop-frame-preserved c =
    let x = c.frame-item.result in
    part_more (λ xs. frames_text c.args.files.now c.args.is_guess xs) (frame_text c.args.files.now c.args.is_guess x)
    (string_bytes c.loop-frame.text) _ _ c.args.frames.now c.loop-frame.frame-index
    (ap (λ xs. frames_text c.args.files.now c.args.is_guess xs)
    (next c.args.frames.now c.loop-frame.frame-index x x c.loop-frame-test.true c.frame-item.is))
    c.loop-frame.invariant c.in_ok-push_frame.ensures

pub returns : goal.returns
returns c =
    sym (append-nil (string_bytes c.loop-frame.text))
    ∙ ap (λ t. string_bytes c.loop-frame.text ++ t)
    (sym (at_drop_all (λ xs. frames_text c.args.files.now c.args.is_guess xs) c.args.frames.now
    c.loop-frame.frame-index c.loop-frame-test.false)) ∙ c.loop-frame.invariant
