use Rattle.std.proofs.Common.{◌∙◌, ap}
use Rattle.frame_expressions.specs.Operations.{operation_in}
use Rattle.frame_expressions.proofs.Grammar.{first_of, spelled_read}
use Rattle.frame_expressions.proofs.operation.operation_in.Goals as goal

pub returns-clause-right : goal.returns-clause-right
returns-clause-right c = first_of c.args.bytes.now c.read_in.result c.read_in.ensures

pub returns-clause-only : goal.returns-clause-only
returns-clause-only c = λ text behind o parts spells. c.read_in.ensures ∙ ap operation_in parts
    ∙ spelled_read text behind o spells
