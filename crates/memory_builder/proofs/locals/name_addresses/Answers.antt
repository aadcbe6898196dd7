use Rattle.std.proofs.Common.{◌∙◌, ◌+◌, ◌++◌, ap, map, refl, arith}
use Rattle.memory_builder.specs.Chains.{addresses_from}
use Rattle.memory_builder.specs.Mirror.{local_in}
use Rattle.object_builder.specs.Objects.{bytes_of}
use Rattle.memory_builder.specs.Sizes.{name_size, rounded}
use Rattle.memory_builder.specs.Validity.{IsValidLocal}
use Rattle.memory_builder.specs.Values.{address_array}
use Rattle.memory_builder.proofs.Growing.{address_more, here_fits, here_more}
use Rattle.memory_builder.proofs.Lists.{length_map}
use Rattle.memory_builder.proofs.Sums.{item_at, take_all}
use Rattle.memory_builder.proofs.locals.name_addresses.Goals as goal

pub loop-local-init : goal.loop-local-init
unfolding address_array
loop-local-init c = record { found = c.new-found.ensures.items; here = omega arith }

pub text_len-requires-clause-brief : goal.text_len-requires-clause-brief
text_len-requires-clause-brief c = (item_at IsValidLocal local_in c.args.locals.now c.loop-local.local-index
    c.local-item.result c.loop-local-test.true c.local-item.is c.requires.valid).name

pub overflow_add-here : goal.overflow_add-here
unfolding name_size
overflow_add-here c =
    omega (
      arith,
      here_fits (name_size c.args.layout.now) local_in c.args.locals.now c.loop-local.local-index c.local-item.result
          c.args.at c.loop-local.here
          c.loop-local-test.true c.local-item.is c.loop-local.invariant.here c.requires.fits,
      (c.rounded-here.ensures.value ∙ ap rounded c.text_len.ensures.value),
    )

pub loop-local-preserved : goal.loop-local-preserved
unfolding bytes_of name_size
loop-local-preserved c =
    let l = c.args.layout.now in
    record {
      found = address_more (name_size l) local_in c.args.locals.now c.loop-local.local-index c.local-item.result
          c.args.at c.loop-local.here c.loop-local.found.items c.extend_from_slice.new.self.items
          c.loop-local-test.true c.local-item.is c.loop-local.invariant.found c.loop-local.invariant.here
          (c.in_ok-extend_from_slice.ensures.items ∙ ap (λ ys. c.loop-local.found.items ++ ys) c.to_le_bytes.ensures);
      here = here_more (name_size l) local_in c.args.locals.now c.loop-local.local-index c.local-item.result c.args.at
          c.loop-local.here c.rounded-here.result (c.loop-local.here + c.rounded-here.result)
          c.loop-local-test.true c.local-item.is c.loop-local.invariant.here (c.rounded-here.ensures.value
          ∙ ap rounded c.text_len.ensures.value) refl;
    }

pub returns : goal.returns
returns c =
    c.loop-local.invariant.found ∙ ap (λ xs. address_array (addresses_from (name_size c.args.layout.now) c.args.at xs))
    (take_all (map local_in c.args.locals.now) c.loop-local.local-index (omega (
      arith,
      c.loop-local-test.false,
      length_map local_in c.args.locals.now,
    )))
