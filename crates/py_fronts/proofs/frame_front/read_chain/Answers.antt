use Rattle.std.proofs.Common.{arith, ap}
use Rattle.process_memory.proofs.Reading.{reading_gives, reading_here, reading_then}
use Rattle.py_fields.proofs.Fields.{thread_fits}
use Rattle.process_memory.specs.Memory.{byte_at}
use Rattle.py_fronts.specs.Members.{chain_reads, chained_of_result}
use Rattle.py_fronts.proofs.EndsShown.{chain_cost, chain_missing, chain_there, missing_few}
use Rattle.py_builtins.proofs.Consulted.{consulting_short}
use Rattle.py_fronts.proofs.frame_front.read_chain.Goals as goal

pub returns-in-Ok-clause-answer : goal.returns-in-Ok-clause-answer
returns-in-Ok-clause-answer g c =
    let here = chain_cost c.args.layout.now _ c.args.limit c.args.thread.now c.in-Ok.first (reading_here c.in-Ok.ensures.answer).is in
    let same = ap (λ ps. chain_reads c.args.layout.now (byte_at ps) c.args.limit c.in-Ok.first) c.in-Ok.ensures.answer.pieces in
    reading_gives _ _ (reading_then _ (consulting_short c.in-Ok.ensures.answer) c.walk_members.ensures.answer (λ m a b. chain_there c.args.layout.now m c.args.limit c.args.thread.now c.in-Ok.first (chained_of_result c.walk_members.result) a.is b))
    (omega (arith, here, same)) (λ m h. h)

pub returns-in-Err-clause-answer : goal.returns-in-Err-clause-answer
returns-in-Err-clause-answer g c =
    reading_gives _ _ (consulting_short c.in-Err.ensures.answer) (omega arith) (λ m a. chain_missing c.args.layout.now m c.args.limit c.args.thread.now c.in-Err.error c.no_chain.result a.is c.no_chain.ensures)

pub returns-in-Err-clause-few : goal.returns-in-Err-clause-few
returns-in-Err-clause-few g c = missing_few c.args.limit c.in-Err.error c.no_chain.result c.no_chain.ensures

pub first_frame-requires : goal.first_frame-requires
first_frame-requires g c = omega (arith, (thread_fits c.requires.sound).frame, c.requires.whole)
