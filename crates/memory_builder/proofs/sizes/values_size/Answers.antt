use Rattle.memory_builder.specs.Mirror.{local_in}
use Rattle.memory_builder.specs.Sizes.{local_size}
use Rattle.memory_builder.specs.Validity.{IsValidLocal}
use Rattle.memory_builder.proofs.Sums.{all_capped, item_at, more_capped}
use Rattle.memory_builder.proofs.sizes.values_size.Goals as goal

pub value_size-requires-clause-valid : goal.value_size-requires-clause-valid
value_size-requires-clause-valid c = (item_at IsValidLocal local_in c.args.locals.now c.loop-local.local-index
    c.local-item.result c.loop-local-test.true c.local-item.is c.requires.valid).value

pub loop-local-preserved : goal.loop-local-preserved
unfolding local_size
loop-local-preserved c =
    more_capped (local_size c.args.layout.now) local_in c.args.locals.now c.loop-local.local-index c.local-item.result
    c.loop-local.total c.value_size.result c.saturating_add-total.result
    c.loop-local-test.true c.local-item.is c.loop-local.invariant c.value_size.ensures c.saturating_add-total.ensures

pub returns : goal.returns
returns c = all_capped (local_size c.args.layout.now) local_in c.args.locals.now c.loop-local.local-index
    c.loop-local.total c.loop-local-test.false c.loop-local.invariant
