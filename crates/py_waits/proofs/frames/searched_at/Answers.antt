use Rattle.std.proofs.Common.{ap, arith, refl, sym}
use Rattle.std.proofs.lemmas.Result.{err_from_is_err_and}
use Rattle.process_memory.specs.Seen.{read_fault}
use Rattle.process_memory.proofs.Reading.{reads_end, reads_halt, reads_next}
use Rattle.py_waits.specs.Frames.{searched_at}
use Rattle.py_waits.proofs.frames.searched_at.Goals as goal

pub returns-in_err-first : goal.returns-in_err-first
unfolding searched_at
returns-in_err-first g c =
    let p = err_from_is_err_and c.from_residual.result c.from_residual.ensures.1 in
    rw p.1 ((reads_halt 2308 p.0 _ c.in_err-first.ensures (ap read_fault p.2) (omega arith)))

pub returns-in_err-one : goal.returns-in_err-one
unfolding searched_at
returns-in_err-one g c =
    let p = err_from_is_err_and c.from_residual-in_err-one.result c.from_residual-in_err-one.ensures.1 in
    rw p.1 ((reads_next 2308 _ c.in_ok-first.ensures
    (reads_halt 2306 p.0 _ c.in_err-one.ensures (ap read_fault p.2) (omega arith)) (omega arith)))

pub returns-in_err-second : goal.returns-in_err-second
unfolding searched_at
returns-in_err-second g c =
    let p = err_from_is_err_and c.from_residual-in_err-second.result c.from_residual-in_err-second.ensures.1 in
    rw p.1 ((reads_next 2308 _ c.in_ok-first.ensures
    (reads_next 2306 _ c.in_ok-one.ensures
    (reads_halt 1538 p.0 _ c.in_err-second.ensures (ap read_fault p.2) (omega arith)) (omega arith)) (omega arith)))

pub returns-in_err-two : goal.returns-in_err-two
unfolding searched_at
returns-in_err-two g c =
    let p = err_from_is_err_and c.from_residual-in_err-two.result c.from_residual-in_err-two.ensures.1 in
    rw p.1 ((reads_next 2308 _ c.in_ok-first.ensures
    (reads_next 2306 _ c.in_ok-one.ensures
    (reads_next 1538 _ c.in_ok-second.ensures
    (reads_halt 1537 p.0 _ c.in_err-two.ensures (ap read_fault p.2) (omega arith)) (omega arith)) (omega arith))
    (omega arith)))

pub returns-in_err-third : goal.returns-in_err-third
unfolding searched_at
returns-in_err-third g c =
    let p = err_from_is_err_and c.from_residual-in_err-third.result c.from_residual-in_err-third.ensures.1 in
    rw p.1 ((reads_next 2308 _ c.in_ok-first.ensures
    (reads_next 2306 _ c.in_ok-one.ensures
    (reads_next 1538 _ c.in_ok-second.ensures
    (reads_next 1537 _ c.in_ok-two.ensures
    (reads_halt 769 p.0 _ c.in_err-third.ensures (ap read_fault p.2) (omega arith)) (omega arith)) (omega arith))
    (omega arith)) (omega arith)))

pub returns : goal.returns
unfolding searched_at
returns g c =
    (reads_next 2308 _ c.in_ok-first.ensures
    (reads_next 2306 _ c.in_ok-one.ensures
    (reads_next 1538 _ c.in_ok-second.ensures
    (reads_next 1537 _ c.in_ok-two.ensures
    (reads_next 769 _ c.in_ok-third.ensures
    c.in_frame-3.ensures (omega arith)) (omega arith)) (omega arith)) (omega arith)) (omega arith))
