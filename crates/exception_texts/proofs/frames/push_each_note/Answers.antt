use Rattle.std.proofs.Common.{string_bytes}
use Rattle.exception_texts.specs.Frames.{note_line}
use Rattle.salvage_texts.proofs.Parts.{push_more}
use Rattle.exception_texts.proofs.frames.push_each_note.Goals as goal

pub loop-note-preserved : goal.loop-note-preserved
loop-note-preserved c =
    push_more (λ x. note_line c.args.depth x) (string_bytes c.args.text.now) _ _ c.args.notes.now c.loop-note.note-index
    c.note-item.result c.note-item.result c.loop-note-test.true c.note-item.is c.loop-note.invariant
    c.in_ok-push_note.ensures
