use Rattle.memory_builder.proofs.Names.{shown_is, empty_hidden}
use Rattle.memory_builder.proofs.validity.is_shown_file.Goals as goal

pub returns-then-ne : goal.returns-then-ne
returns-then-ne c =
    shown_is c.args.filename.now c.as_str-filename.result.now c.as_str-filename.ensures c.ne.result c.ne.ensures
    c.if-ne.true c.ne-then-ne.result c.ne-then-ne.ensures

pub returns-else-ne : goal.returns-else-ne
returns-else-ne c = empty_hidden c.args.filename.now c.as_str-filename.result.now c.as_str-filename.ensures c.ne.result
    c.ne.ensures c.if-ne.false
