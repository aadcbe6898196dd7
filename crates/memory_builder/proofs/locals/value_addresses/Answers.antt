use Rattle.std.proofs.Common.{◌∙◌, ◌+◌, ◌++◌, ap, map, refl, arith}
use Rattle.memory_builder.specs.Chains.{addresses_from}
use Rattle.memory_builder.specs.Mirror.{local_in}
use Rattle.object_builder.specs.Objects.{bytes_of}
use Rattle.memory_builder.specs.Sizes.{local_size}
use Rattle.memory_builder.specs.Validity.{IsValidLocal}
use Rattle.memory_builder.specs.Values.{address_array}
use Rattle.memory_builder.proofs.Growing.{address_more, exact, here_fits, here_more}
use Rattle.memory_builder.proofs.Lists.{length_map}
use Rattle.memory_builder.proofs.Sums.{item_at, take_all}
use Rattle.memory_builder.proofs.locals.value_addresses.Goals as goal

pub loop-local-init : goal.loop-local-init
unfolding address_array
loop-local-init c = record { found = c.new-found.ensures.items; here = omega arith }

pub value_size-here-requires-clause-valid : goal.value_size-here-requires-clause-valid
value_size-here-requires-clause-valid c = (item_at IsValidLocal local_in c.args.locals.now c.loop-local.local-index
    c.local-item.result c.loop-local-test.true c.local-item.is c.requires.valid).value

pub overflow_add-here : goal.overflow_add-here
unfolding local_size
overflow_add-here c =
    omega (
      arith,
      here_fits (local_size c.args.layout.now) local_in c.args.locals.now c.loop-local.local-index c.local-item.result
          c.args.at c.loop-local.here
          c.loop-local-test.true c.local-item.is c.loop-local.invariant.here c.requires.fits,
      c.value_size-here.ensures,
    )

pub loop-local-preserved : goal.loop-local-preserved
unfolding bytes_of local_size
loop-local-preserved c =
    let l = c.args.layout.now in
    record {
      found = address_more (local_size l) local_in c.args.locals.now c.loop-local.local-index c.local-item.result
          c.args.at c.loop-local.here c.loop-local.found.items c.extend_from_slice.new.self.items
          c.loop-local-test.true c.local-item.is c.loop-local.invariant.found c.loop-local.invariant.here
          (c.in_ok-extend_from_slice.ensures.items ∙ ap (λ ys. c.loop-local.found.items ++ ys) c.to_le_bytes.ensures);
      here = here_more (local_size l) local_in c.args.locals.now c.loop-local.local-index c.local-item.result c.args.at
          c.loop-local.here c.value_size-here.result (c.loop-local.here + c.value_size-here.result)
          c.loop-local-test.true c.local-item.is c.loop-local.invariant.here
          (exact c.value_size-here.result (local_size l (local_in c.local-item.result)) c.value_size-here.ensures
          (omega (
            arith,
            here_fits (local_size c.args.layout.now) local_in c.args.locals.now
                c.loop-local.local-index c.local-item.result c.args.at c.loop-local.here c.loop-local-test.true
                c.local-item.is c.loop-local.invariant.here c.requires.fits,
          ))) refl;
    }

pub returns : goal.returns
returns c =
    c.loop-local.invariant.found ∙ ap (λ xs. address_array (addresses_from (local_size c.args.layout.now) c.args.at xs))
    (take_all (map local_in c.args.locals.now) c.loop-local.local-index (omega (
      arith,
      c.loop-local-test.false,
      length_map local_in c.args.locals.now,
    )))
