use Rattle.std.proofs.Common.{refl}
use Rattle.process_memory.proofs.Reading.{reading_one}
use Rattle.process_memory.proofs.Records.{answer_length}
use Rattle.process_memory.proofs.readers.record.Goals as goal

pub returns-clause-answer : goal.returns-clause-answer
returns-clause-answer g c = reading_one (record { is = refl; short = c.requires }) c.copy.ensures.law

pub returns-clause-whole : goal.returns-clause-whole
returns-clause-whole g c =
    answer_length _ c.args.addr c.args.len c.copy.result c.copy.ensures.law.answer
