use Rattle.std.proofs.Common.{refl, arith}
use Rattle.std.proofs.lemmas.Result.{err_from_is_err_and}
use Rattle.process_memory.proofs.Reading.{reading_short, reads_end, reads_halt, reads_next}
use Rattle.py_reprs.specs.Attributes.{stated_at}
use Rattle.py_reprs.proofs.attributes.read_stated.Goals as goal

pub returns-in-None : goal.returns-in-None
unfolding stated_at
returns-in-None g c = rw c.in-None.is (reads_end 1 refl)

pub returns-in_err-used-in-Dict : goal.returns-in_err-used-in-Dict
unfolding stated_at
returns-in_err-used-in-Dict g c =
    let p = err_from_is_err_and c.from_residual.result c.from_residual.ensures.1 in
    rw (p.1, c.in-Dict.is) (reads_halt 1 p.0 _ (reading_short c.in_err-used-in-Dict.ensures.answer) p.2 (omega arith))

pub returns-in_ok-used-in-Dict : goal.returns-in_ok-used-in-Dict
unfolding stated_at
returns-in_ok-used-in-Dict g c =
    rw c.in-Dict.is (reads_next 1 _ (reading_short c.in_ok-used-in-Dict.ensures.answer) (reads_end 0 refl) (omega arith))

pub returns-in-Values : goal.returns-in-Values
unfolding stated_at
returns-in-Values g c = rw c.in-Values.is (reads_end 1 refl)
