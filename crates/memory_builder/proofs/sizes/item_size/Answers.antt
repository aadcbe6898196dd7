use Rattle.std.proofs.Common.{◌≡◌, ◌∙◌, ap, subst, sym}
use Rattle.memory_builder.specs.Mirror.{item_in}
use Rattle.memory_builder.specs.Sizes.{item_size, rounded}
use Rattle.memory_builder.proofs.sizes.item_size.Goals as goal

pub returns-in-Number-clause-value : goal.returns-in-Number-clause-value
unfolding item_size
returns-in-Number-clause-value c =
    subst (λ x. c.rounded.result ≡ item_size c.args.layout.now (item_in x)) (sym c.in-Number.is)
    (c.rounded.ensures.value ∙ ap rounded c.number_len.ensures.value)

pub returns-in-Words-clause-value : goal.returns-in-Words-clause-value
unfolding item_size
returns-in-Words-clause-value c =
    subst (λ x. c.rounded-in-Words.result ≡ item_size c.args.layout.now (item_in x)) (sym c.in-Words.is)
    (c.rounded-in-Words.ensures.value ∙ ap rounded c.text_len.ensures.value)
