use Rattle.std.proofs.Common.{◌∙◌, arith}
use Rattle.memory_builder.specs.Mirror.{item_in}
use Rattle.memory_builder.specs.Sizes.{item_size}
use Rattle.memory_builder.specs.Validity.{IsValidItem}
use Rattle.memory_builder.proofs.Sums.{all_capped, fits_capped, item_at, more_capped}
use Rattle.memory_builder.proofs.sizes.items_size.Goals as goal

pub item_size-requires-clause-valid : goal.item_size-requires-clause-valid
item_size-requires-clause-valid c = item_at IsValidItem item_in c.args.items.now c.loop-item.item-index
    c.item-item.result c.loop-item-test.true c.item-item.is c.requires.valid

pub loop-item-preserved : goal.loop-item-preserved
loop-item-preserved c =
    more_capped (item_size c.args.layout.now) item_in c.args.items.now c.loop-item.item-index c.item-item.result
    c.loop-item.total c.item_size.result c.saturating_add-total.result
    c.loop-item-test.true c.item-item.is c.loop-item.invariant
    (c.item_size.ensures.value ∙ fits_capped (item_size c.args.layout.now (item_in c.item-item.result)) (omega (
      arith,
      c.item_size.ensures.bound,
      c.item_size.ensures.value,
    )))
    c.saturating_add-total.ensures

pub returns : goal.returns
returns c = all_capped (item_size c.args.layout.now) item_in c.args.items.now c.loop-item.item-index c.loop-item.total
    c.loop-item-test.false c.loop-item.invariant
