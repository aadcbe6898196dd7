use Rattle.std.proofs.Common.{◌+◌, ◌++◌, drop, ap, ◌∙◌}
use Rattle.piece_table.specs.Places.{owned_by}
use Rattle.piece_table.proofs.Tables.{owned_more}
use Rattle.piece_table.proofs.table.laid_by.Goals as goal

pub loop-number-preserved : goal.loop-number-preserved
loop-number-preserved g c =
    let pieces = c.args.pieces.now in
    let owners = c.args.owners.now in
    let next = c.loop-number.number + 1 in
    ap (λ items. items ++ owned_by (drop next pieces) (drop next owners)) c.in_ok-push.ensures.items
    ∙ owned_more c.loop-number.laid.items pieces owners c.loop-number.number c.probe.result (owned_by pieces owners)
    c.requires.counted c.probe.ensures.entry c.loop-number.invariant
