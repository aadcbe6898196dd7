use Rattle.std.proofs.Common.{◌∙◌, ◌+◌, ◌++◌, ap, map, refl, arith}
use Rattle.memory_builder.specs.Chains.{addresses_from}
use Rattle.memory_builder.specs.Mirror.{item_in}
use Rattle.object_builder.specs.Objects.{bytes_of}
use Rattle.memory_builder.specs.Sizes.{item_size}
use Rattle.memory_builder.specs.Validity.{IsValidItem}
use Rattle.memory_builder.specs.Values.{address_array}
use Rattle.memory_builder.proofs.Growing.{address_more, here_fits, here_more}
use Rattle.memory_builder.proofs.Lists.{length_map}
use Rattle.memory_builder.proofs.Sums.{item_at, take_all}
use Rattle.memory_builder.proofs.values.item_addresses.Goals as goal

pub loop-item-init : goal.loop-item-init
unfolding address_array
loop-item-init c = record { found = c.new-found.ensures.items; here = omega arith }

pub item_size-here-requires-clause-valid : goal.item_size-here-requires-clause-valid
item_size-here-requires-clause-valid c = item_at IsValidItem item_in c.args.items.now c.loop-item.item-index
    c.item-item.result c.loop-item-test.true c.item-item.is c.requires.valid

pub overflow_add-here : goal.overflow_add-here
overflow_add-here c =
    omega (
      arith,
      here_fits (item_size c.args.layout.now) item_in c.args.items.now c.loop-item.item-index c.item-item.result
          c.args.at c.loop-item.here
          c.loop-item-test.true c.item-item.is c.loop-item.invariant.here c.requires.fits,
      c.item_size-here.ensures.value,
    )

pub loop-item-preserved : goal.loop-item-preserved
unfolding bytes_of
loop-item-preserved c =
    let l = c.args.layout.now in
    record {
      found = address_more (item_size l) item_in c.args.items.now c.loop-item.item-index c.item-item.result c.args.at
          c.loop-item.here c.loop-item.found.items c.extend_from_slice.new.self.items
          c.loop-item-test.true c.item-item.is c.loop-item.invariant.found c.loop-item.invariant.here
          (c.in_ok-extend_from_slice.ensures.items ∙ ap (λ ys. c.loop-item.found.items ++ ys) c.to_le_bytes.ensures);
      here = here_more (item_size l) item_in c.args.items.now c.loop-item.item-index c.item-item.result c.args.at
          c.loop-item.here c.item_size-here.result (c.loop-item.here + c.item_size-here.result)
          c.loop-item-test.true c.item-item.is c.loop-item.invariant.here c.item_size-here.ensures.value refl;
    }

pub returns : goal.returns
returns c =
    c.loop-item.invariant.found ∙ ap (λ xs. address_array (addresses_from (item_size c.args.layout.now) c.args.at xs))
    (take_all (map item_in c.args.items.now) c.loop-item.item-index (omega (
      arith,
      c.loop-item-test.false,
      length_map item_in c.args.items.now,
    )))
