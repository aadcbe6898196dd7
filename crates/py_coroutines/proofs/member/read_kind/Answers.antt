use Rattle.std.proofs.Common.{ap, arith, sym}
use Rattle.std.proofs.lemmas.Result.{err_from_is_err_and}
use Rattle.process_memory.proofs.Reading.{reading_short, reads_end, reads_halt, reads_next}
use Rattle.process_memory.specs.Seen.{read_fault}
use Rattle.py_coroutines.specs.Members.{kind_at}
use Rattle.py_coroutines.proofs.member.read_kind.Goals as goal

pub returns-in_err-class : goal.returns-in_err-class
unfolding kind_at
returns-in_err-class g c =
    let p = err_from_is_err_and c.from_residual.result c.from_residual.ensures.1 in
    rw p.1 (reads_halt 1 p.0 _ (reading_short c.in_err-class.ensures.answer) (ap read_fault p.2) (omega arith))

pub returns : goal.returns
unfolding kind_at
returns g c = reads_next 1 _ (reading_short c.in_ok-class.ensures.answer) (reads_end 0 (sym c.kind_of.ensures)) (omega arith)
