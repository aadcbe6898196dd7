use Rattle.std.proofs.Common.{string_bytes}
use Rattle.salvage_texts.specs.Standings.{local_text}
use Rattle.salvage_texts.proofs.Parts.{push_more}
use Rattle.salvage_texts.proofs.standing.push_locals.Goals as goal

pub loop-local-preserved : goal.loop-local-preserved
loop-local-preserved c =
    push_more (λ x. local_text c.args.values.now x) (string_bytes c.args.text.now) _ _ c.args.locals.now c.loop-local.local-index
    c.local-item.result c.local-item.result c.loop-local-test.true c.local-item.is c.loop-local.invariant
    c.in_ok-push_local.ensures
