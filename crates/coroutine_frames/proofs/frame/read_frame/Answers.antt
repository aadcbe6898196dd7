use Rattle.std.proofs.Common.{ap, arith}
use Rattle.std.proofs.lemmas.Result.{err_from_is_err_and}
use Rattle.process_memory.specs.Seen.{IsShort}
use Rattle.process_memory.proofs.Reading.{reading_wider, reads_halt, reads_next}
use Rattle.coroutine_frames.specs.Frames.{frame_at}
use Rattle.coroutine_frames.proofs.frame.read_frame.Goals as goal

pub returns-in_err-place : goal.returns-in_err-place
unfolding frame_at
returns-in_err-place g c =
    let p = err_from_is_err_and c.from_residual.result c.from_residual.ensures.1 in
    rw p.1 (reads_halt 9 p.0 _ c.in_err-place.ensures p.2 (omega arith))

pub returns : goal.returns
unfolding frame_at
returns g c = reads_next 9 _ c.in_ok-place.ensures (reading_wider IsShort c.read_placed.ensures (λ m s h. h.short)) (omega arith)
