use Rattle.std.proofs.Common.{◌∙◌, ◌++◌, ap, map, sym, append-nil, arith}
use Rattle.std.specs.List.{flat_map}
use Rattle.memory_builder.specs.Mirror.{item_in}
use Rattle.memory_builder.specs.Validity.{IsValidItem}
use Rattle.memory_builder.specs.Values.{laid_item}
use Rattle.memory_builder.proofs.Growing.{flat_more}
use Rattle.memory_builder.proofs.Lists.{length_map}
use Rattle.memory_builder.proofs.Sums.{item_at, take_all}
use Rattle.memory_builder.proofs.values.add_items.Goals as goal

pub loop-item-init : goal.loop-item-init
loop-item-init c = sym (append-nil c.args.out.now.items)

pub add_item-requires-clause-valid : goal.add_item-requires-clause-valid
add_item-requires-clause-valid c = item_at IsValidItem item_in c.args.items.now c.loop-item.item-index
    c.item-item.result c.loop-item-test.true c.item-item.is c.requires.valid

pub loop-item-preserved : goal.loop-item-preserved
loop-item-preserved c =
    flat_more (laid_item c.args.layout.now c.args.types) item_in c.args.items.now c.loop-item.item-index
    c.item-item.result c.args.out.now.items c.loop-item.out.items c.add_item.new.out.items
    c.loop-item-test.true c.item-item.is c.loop-item.invariant c.in_ok-add_item.ensures

pub returns : goal.returns
returns c =
    c.loop-item.invariant ∙ ap (λ xs. c.args.out.now.items ++ flat_map (laid_item c.args.layout.now c.args.types) xs)
    (take_all (map item_in c.args.items.now) c.loop-item.item-index (omega (
      arith,
      c.loop-item-test.false,
      length_map item_in c.args.items.now,
    )))
