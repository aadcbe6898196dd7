use Rattle.std.proofs.Common.{◌∙◌, ◌+◌, ◌++◌, ap, map, sym, refl, append-nil, arith}
use Rattle.memory_builder.specs.Chains.{laid_chain}
use Rattle.memory_builder.specs.Mirror.{local_in}
use Rattle.memory_builder.specs.Sizes.{local_size}
use Rattle.memory_builder.specs.Validity.{IsValidLocal}
use Rattle.memory_builder.specs.Values.{laid_all, laid_local}
use Rattle.memory_builder.proofs.Growing.{all_more, exact, here_fits, here_more}
use Rattle.memory_builder.proofs.Lists.{length_map}
use Rattle.memory_builder.proofs.Sums.{item_at, take_all}
use Rattle.memory_builder.proofs.locals.add_values.Goals as goal

pub loop-local-init : goal.loop-local-init
unfolding laid_chain
loop-local-init c = record { out = sym (append-nil c.args.out.now.items); here = omega arith }

pub add_value-requires-clause-valid : goal.add_value-requires-clause-valid
add_value-requires-clause-valid c = (item_at IsValidLocal local_in c.args.locals.now c.loop-local.local-index
    c.local-item.result c.loop-local-test.true c.local-item.is c.requires.valid).value

pub add_value-requires-clause-fits : goal.add_value-requires-clause-fits
unfolding local_size
add_value-requires-clause-fits c = omega (
  arith,
  here_fits (local_size c.args.layout.now) local_in c.args.locals.now
      c.loop-local.local-index c.local-item.result c.args.at c.loop-local.here c.loop-local-test.true c.local-item.is
      c.loop-local.invariant.here c.requires.fits,
)

pub value_size-here-requires-clause-valid : goal.value_size-here-requires-clause-valid
value_size-here-requires-clause-valid c = (item_at IsValidLocal local_in c.args.locals.now c.loop-local.local-index
    c.local-item.result c.loop-local-test.true c.local-item.is c.requires.valid).value

pub overflow_add-here : goal.overflow_add-here
unfolding local_size
overflow_add-here c = omega (
  arith,
  here_fits (local_size c.args.layout.now) local_in c.args.locals.now
      c.loop-local.local-index c.local-item.result c.args.at c.loop-local.here c.loop-local-test.true c.local-item.is
      c.loop-local.invariant.here c.requires.fits,
  c.value_size-here.ensures,
)

pub loop-local-preserved : goal.loop-local-preserved
unfolding local_size laid_local
loop-local-preserved c =
    let l = c.args.layout.now in
    let one = exact c.value_size-here.result (local_size l (local_in c.local-item.result)) c.value_size-here.ensures
    (omega (
      arith,
      here_fits (local_size c.args.layout.now) local_in c.args.locals.now c.loop-local.local-index
          c.local-item.result c.args.at c.loop-local.here c.loop-local-test.true c.local-item.is
          c.loop-local.invariant.here c.requires.fits,
    )) in
    record {
      out = all_more (local_size l) (laid_local l c.args.types) local_in c.args.locals.now c.loop-local.local-index
          c.local-item.result c.args.at c.loop-local.here c.args.out.now.items c.loop-local.out.items
          c.add_value.new.out.items
          c.loop-local-test.true c.local-item.is c.loop-local.invariant.out c.loop-local.invariant.here
          c.in_ok-add_value.ensures;
      here = here_more (local_size l) local_in c.args.locals.now c.loop-local.local-index c.local-item.result c.args.at
          c.loop-local.here c.value_size-here.result (c.loop-local.here + c.value_size-here.result)
          c.loop-local-test.true c.local-item.is c.loop-local.invariant.here one refl;
    }

pub returns : goal.returns
returns c =
    c.loop-local.invariant.out ∙ ap (λ xs. c.args.out.now.items
    ++ laid_all (local_size c.args.layout.now) (laid_local c.args.layout.now c.args.types) c.args.at xs)
    (take_all (map local_in c.args.locals.now) c.loop-local.local-index (omega (
      arith,
      c.loop-local-test.false,
      length_map local_in c.args.locals.now,
    )))
