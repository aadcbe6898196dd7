use Rattle.std.proofs.Common.{◌≡◌, ◌+◌, ◌∙◌, ap, arith}
use Rattle.std.proofs.lemmas.Result.{err_from_is_err_and}
use Rattle.process_memory.proofs.Reading.{reading_gives, reading_then}
use Rattle.py_runs.specs.Members.{c_frame_at, c_frame_by, word_known}
use Rattle.py_runs.proofs.c_frame.read_c_frame.Goals as goal

pub returns-in_err-named : goal.returns-in_err-named
returns-in_err-named g c =
    let p = err_from_is_err_and c.from_residual.result c.from_residual.ensures.1 in
    rw p.1 (reading_gives 2 _ c.in_err-named.ensures (omega arith) (λ m a. tt))

pub returns-in_err-back : goal.returns-in_err-back
returns-in_err-back g c =
    let p = err_from_is_err_and c.from_residual-in_err-back.result c.from_residual-in_err-back.ensures.1 in
    rw p.1 (reading_gives 2 _ (reading_then (λ m. Unit {0}) c.in_ok-named.ensures c.in_err-back.ensures (λ m a b. tt))
    (omega arith) (λ m h. tt))

pub returns : goal.returns
returns g c = reading_gives 2 _
    (reading_then (λ m. c.c_frame_by.result ≡ c_frame_at c.args.current c.args.previous m c.args.at)
    c.in_ok-named.ensures c.in_ok-back.ensures
    (λ m a b. c.c_frame_by.ensures ∙ ap (λ one. c_frame_by c.args.at one c.in_ok-back.back) a
    ∙ ap (λ two. c_frame_by c.args.at (word_known m (c.args.at + c.args.current)) two) b)) (omega arith) (λ m h. h)
