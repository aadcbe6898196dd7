use Rattle.std.proofs.Common.{◌∙◌, ap}
use Rattle.memory_builder.specs.Sizes.{rounded}
use Rattle.memory_builder.proofs.Records.{shared_is}
use Rattle.memory_builder.proofs.sizes.shared_size.Goals as goal

pub returns-clause-value : goal.returns-clause-value
returns-clause-value c =
    shared_is c.args.layout.now c.rounded-2.result c.gil_size.result c.rounded.result (c.rounded-2.ensures.value
    ∙ ap rounded c.interpreter_len.ensures.value)
    c.gil_size.ensures.value (c.rounded.ensures.value ∙ ap rounded c.from.ensures)
