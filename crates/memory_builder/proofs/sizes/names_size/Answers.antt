use Rattle.std.proofs.Common.{◌∙◌, ap, arith}
use Rattle.memory_builder.specs.Mirror.{local_in}
use Rattle.memory_builder.specs.Sizes.{name_size, rounded}
use Rattle.memory_builder.specs.Validity.{IsValidLocal}
use Rattle.memory_builder.proofs.Sums.{all_capped, fits_capped, item_at, more_capped}
use Rattle.memory_builder.proofs.sizes.names_size.Goals as goal

pub text_len-requires-clause-brief : goal.text_len-requires-clause-brief
text_len-requires-clause-brief c = (item_at IsValidLocal local_in c.args.locals.now c.loop-local.local-index
    c.local-item.result c.loop-local-test.true c.local-item.is c.requires.valid).name

pub loop-local-preserved : goal.loop-local-preserved
unfolding name_size
loop-local-preserved c =
    let one_is = c.rounded.ensures.value ∙ ap rounded c.text_len.ensures.value in
    more_capped (name_size c.args.layout.now) local_in c.args.locals.now c.loop-local.local-index c.local-item.result
    c.loop-local.total c.rounded.result c.saturating_add-total.result
    c.loop-local-test.true c.local-item.is c.loop-local.invariant
    (one_is ∙ fits_capped (name_size c.args.layout.now (local_in c.local-item.result)) (omega (
      arith,
      c.rounded.ensures.bound,
      c.text_len.ensures.bound,
      one_is,
    )))
    c.saturating_add-total.ensures

pub returns : goal.returns
returns c = all_capped (name_size c.args.layout.now) local_in c.args.locals.now c.loop-local.local-index
    c.loop-local.total c.loop-local-test.false c.loop-local.invariant
