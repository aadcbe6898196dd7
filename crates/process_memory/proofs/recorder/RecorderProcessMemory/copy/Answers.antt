use Rattle.process_memory.proofs.Records.{answer_holds}
use Rattle.process_memory.proofs.recorder.RecorderProcessMemory.copy.Goals as goal

pub returns-in-Err-clause-held : goal.returns-in-Err-clause-held
returns-in-Err-clause-held g c = λ _.
    answer_holds _ c.args.addr c.args.len c.in_ok-bytes.bytes.items c.in_ok-bytes.ensures.law.answer
