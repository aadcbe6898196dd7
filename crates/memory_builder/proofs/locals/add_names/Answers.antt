use Rattle.std.proofs.Common.{◌∙◌, ◌++◌, ap, map, sym, append-nil, arith}
use Rattle.std.specs.List.{flat_map}
use Rattle.memory_builder.specs.Mirror.{local_in}
use Rattle.memory_builder.specs.Validity.{IsValidLocal}
use Rattle.memory_builder.specs.Values.{laid_name}
use Rattle.memory_builder.proofs.Growing.{flat_more}
use Rattle.memory_builder.proofs.Lists.{length_map}
use Rattle.memory_builder.proofs.Sums.{item_at, take_all}
use Rattle.memory_builder.proofs.locals.add_names.Goals as goal

pub loop-local-init : goal.loop-local-init
loop-local-init c = sym (append-nil c.args.out.now.items)

pub add_text-requires-clause-brief : goal.add_text-requires-clause-brief
add_text-requires-clause-brief c = (item_at IsValidLocal local_in c.args.locals.now c.loop-local.local-index
    c.local-item.result c.loop-local-test.true c.local-item.is c.requires.valid).name

pub loop-local-preserved : goal.loop-local-preserved
unfolding laid_name
loop-local-preserved c =
    flat_more (laid_name c.args.layout.now) local_in c.args.locals.now c.loop-local.local-index c.local-item.result
    c.args.out.now.items c.loop-local.out.items c.add_text.new.out.items
    c.loop-local-test.true c.local-item.is c.loop-local.invariant c.in_ok-add_text.ensures.added

pub returns : goal.returns
returns c =
    c.loop-local.invariant ∙ ap (λ xs. c.args.out.now.items ++ flat_map (laid_name c.args.layout.now) xs)
    (take_all (map local_in c.args.locals.now) c.loop-local.local-index (omega (
      arith,
      c.loop-local-test.false,
      length_map local_in c.args.locals.now,
    )))
