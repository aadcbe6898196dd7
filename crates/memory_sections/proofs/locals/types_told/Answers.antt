use Rattle.std.proofs.Common.{◌∙◌, ap}
use Rattle.image_memory.specs.Backed.{regions_of}
use Rattle.process_memory.specs.Memory.{byte_at}
use Rattle.py_process.specs.Facts.{known_of}
use Rattle.repr_types.specs.Symbols.{repr_types_at}
use Rattle.memory_sections.specs.Locals.{with_rules}
use Rattle.memory_sections.proofs.locals.types_told.Goals as goal

pub returns : goal.returns
returns c =
    c.with_rules.ensures ∙ ap (λ t. with_rules t c.instances_of.result c.args.coroutines) c.in_ok-types.ensures
    ∙ ap (λ i. with_rules (repr_types_at (known_of c.args.process.now.info) c.args.process.now.layout
    (byte_at (regions_of c.args.process.now.dump))) i c.args.coroutines) c.instances_of.ensures
