use Rattle.std.proofs.Common.{rules}
use Rattle.process_memory.proofs.Reading.{reading_none}
use Rattle.py_fields.proofs.ObjectFields.{offsets_fits}
use Rattle.py_process.proofs.Heads.{no_record, no_runtime}
use Rattle.py_process.proofs.head.read_head_from.Goals as goal

pub returns-in_default : goal.returns-in_default
returns-in_default g c = reading_none _ _ _ (λ m. no_runtime c.args.layout.now.head c.args.version.now
    c.args.layout.now m c.args.runtime (search rules))

pub read_by_offsets-requires-clause-head : goal.read_by_offsets-requires-clause-head
read_by_offsets-requires-clause-head g c =
    (offsets_fits c.requires.sound c.in-Offsets-Some.offsets c.in-Offsets-Some.is-1).head

pub returns-in-Symbol-default : goal.returns-in-Symbol-default
returns-in-Symbol-default g c = reading_none _ _ _ (λ m. no_record c.args.layout.now.head c.args.version.now
    c.args.layout.now m c.args.runtime c.in-Symbol-default.is-0)
