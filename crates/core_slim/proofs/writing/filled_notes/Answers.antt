use Rattle.std.proofs.Common.{ap, sym, ◌∙◌}
use Rattle.std.specs.Prelude.{slice_get}
use Rattle.image_memory.specs.Notes.{note_bytes}
use Rattle.core_slim.specs.Slim.{filled}
use Rattle.core_slim.proofs.Appending.{none_more}
use Rattle.core_slim.proofs.Pieces.{note_more, past_end}
use Rattle.core_slim.proofs.writing.filled_notes.Goals as goal

pub returns-in-None : goal.returns-in-None
returns-in-None c =
    none_more filled _ c.loop-index.bytes.items (note_bytes c.args.core.now) c.loop-index.index
    (past_end (note_bytes c.args.core.now) c.loop-index.index
    (ap (slice_get (note_bytes c.args.core.now)) (sym c.from.ensures) ∙ sym c.in-None.ensures))
    c.loop-index.invariant

pub loop-index-preserved : goal.loop-index-preserved
loop-index-preserved c =
    note_more _ c.loop-index.bytes.items c.add_filled.new.bytes.items c.in-Some.notes.now
    (note_bytes c.args.core.now) c.loop-index.index
    (ap (slice_get (note_bytes c.args.core.now)) (sym c.from.ensures) ∙ sym c.in-Some.ensures) c.loop-index.invariant
    c.in_ok-add_filled-in-Some.ensures
