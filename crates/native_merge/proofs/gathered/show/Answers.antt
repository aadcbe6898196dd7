use Rattle.std.proofs.Common.{sym, ◌∙◌}
use Rattle.native_merge.proofs.Gathers.{more_none, more_frame, shown_dropped}
use Rattle.native_merge.proofs.gathered.show.Goals as goal

pub returns-then-is_dropped-clause-more : goal.returns-then-is_dropped-clause-more
returns-then-is_dropped-clause-more g c = rw (shown_dropped c.args.native.now (sym c.is_dropped.ensures ∙ c.if-is_dropped.true))
    (more_none c.args.frames.now c.args.made.now.items c.args.cursor)

pub returns-clause-more : goal.returns-clause-more
returns-clause-more g c = more_frame c.args.native.now c.in_ok-frame.frame (sym c.is_dropped.ensures ∙ c.if-is_dropped.false)
    c.in_ok-frame.ensures.shows c.in_ok-push.ensures.items
