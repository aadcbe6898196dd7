use Rattle.std.proofs.Common.{ap, arith, sym, ◌∙◌}
use Rattle.std.proofs.lemmas.Result.{err_from_is_err_and}
use Rattle.process_memory.proofs.Reading.{reading_short, reads_end, reads_halt, reads_next}
use Rattle.process_memory.specs.Seen.{read_fault}
use Rattle.py_coroutines.specs.Members.{apart_place, apart_place_at}
use Rattle.py_coroutines.proofs.member.read_apart_place.Goals as goal

pub returns-in_err-bytes : goal.returns-in_err-bytes
unfolding apart_place_at
returns-in_err-bytes g c =
    let p = err_from_is_err_and c.from_residual.result c.from_residual.ensures.1 in
    rw p.1 (reads_halt 1 p.0 _ (reading_short c.in_err-bytes.ensures.answer) (ap read_fault p.2) (omega arith))

pub returns : goal.returns
unfolding apart_place_at
returns g c =
    let is = ap (apart_place c.args.places.now) (sym c.deref.ensures.value) ∙ sym c.apart_place.ensures in
    reads_next 1 _ (reading_short c.in_ok-bytes.ensures.answer) (reads_end 0 is) (omega arith)
