use Rattle.std.proofs.Common.{string_bytes}
use Rattle.salvage_texts.specs.Standings.{standing_text}
use Rattle.salvage_texts.proofs.Parts.{push_more}
use Rattle.salvage_texts.proofs.standing.push_standings.Goals as goal

pub loop-standing-preserved : goal.loop-standing-preserved
loop-standing-preserved c =
    push_more (λ x. standing_text c.args.values.now x) (string_bytes c.args.text.now) _ _ c.args.standings.now
    c.loop-standing.standing-index c.standing-item.result c.standing-item.result c.loop-standing-test.true
    c.standing-item.is c.loop-standing.invariant c.in_ok-push_standing.ensures
