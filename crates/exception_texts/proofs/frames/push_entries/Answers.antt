use Rattle.std.proofs.Common.{string_bytes}
use Rattle.exception_texts.specs.Frames.{entry_text}
use Rattle.salvage_texts.proofs.Parts.{push_more}
use Rattle.exception_texts.proofs.frames.push_entries.Goals as goal

pub loop-entry-preserved : goal.loop-entry-preserved
loop-entry-preserved c =
    push_more (λ x. entry_text c.args.depth x) (string_bytes c.args.text.now) _ _ c.args.entries.now c.loop-entry.entry-index
    c.entry-item.result c.entry-item.result c.loop-entry-test.true c.entry-item.is c.loop-entry.invariant
    c.in_ok-push_entry.ensures
