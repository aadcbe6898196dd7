use Rattle.serde_json.specs.View.{view}
use Rattle.exception_texts.proofs.Objects.{none_yet, one_more}
use Rattle.exception_texts.proofs.tree.objects_value.Goals as goal

pub loop-number-init : goal.loop-number-init
loop-number-init c = none_yet view c.args.told.now _ c.new-own.ensures.items

pub loop-number-preserved : goal.loop-number-preserved
loop-number-preserved c = one_more view c.args.told.now c.loop-number.own.items _ _ c.loop-number.number
    c.loop-number.invariant c.in_ok-numbered_value.ensures c.in_ok-push.ensures.items
