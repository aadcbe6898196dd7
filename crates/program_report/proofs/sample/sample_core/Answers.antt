use Rattle.memory_builder.specs.Mirror.{program_in}
use Rattle.program_report.proofs.Samples.{core_is}
use Rattle.program_report.proofs.sample.sample_core.Goals as goal

pub returns-in-Ok-clause-bytes : goal.returns-in-Ok-clause-bytes
returns-in-Ok-clause-bytes c =
    core_is c.args.seed c.sample.result c.in_ok-version.version (program_in c.in_ok-program.program)
    c.in-Ok.built.core.items c.sample.ensures.value c.in_ok-version.ensures c.in_ok-program.ensures.same
    c.in-Ok.ensures.core
