use Rattle.std.proofs.Common.{sym, arith}
use Rattle.process_memory.proofs.Reading.{reads_next, reads_end}
use Rattle.py_names.specs.Names.{named_threads_at}
use Rattle.py_names.proofs.NameCounts.{threads_counts}
use Rattle.py_names.proofs.names.read_threads.Goals as goal

pub returns-in-None-clause-answer : goal.returns-in-None-clause-answer
unfolding named_threads_at
returns-in-None-clause-answer g c = rw c.in-None.is (reads_end _ (sym c.new.ensures.items))

pub returns-in_ok-dict-in-Some-clause-answer : goal.returns-in_ok-dict-in-Some-clause-answer
unfolding named_threads_at
returns-in_ok-dict-in-Some-clause-answer g c =
    let count = threads_counts c.args.layout.now c.in-Some.addr c.args.left c.in_ok-dict-in-Some.ensures.answer in
    rw c.in-Some.is (reads_next _ _ c.in_ok-dict-in-Some.ensures.answer c.read_each.ensures.answer (omega (arith, count)))
