use Rattle.std.proofs.Common.{arith, lit<, refl}
use Rattle.std.proofs.lemmas.Result.{err_from_is_err_and}
use Rattle.process_memory.proofs.Reading.{reading_one, reading_gives, word_stops, word_is}
use Rattle.process_memory.proofs.readers.word.Goals as goal

pub returns-in_err-read-clause-answer : goal.returns-in_err-read-clause-answer
returns-in_err-read-clause-answer g c =
    let p = err_from_is_err_and c.from_residual.result c.from_residual.ensures.1 in
    rw (p.1, p.2) (reading_gives 1 _ (reading_one (record { is = refl; short = lit< tt }) c.in_err-read.ensures.law) (omega arith) (λ m h. word_stops m c.args.addr c.read.new.buf _ h))

pub returns-clause-answer : goal.returns-clause-answer
returns-clause-answer g c = reading_gives 1 _ (reading_one (record { is = refl; short = lit< tt }) c.in_ok-read.ensures.law) (omega arith)
    (λ m h. word_is m c.args.addr c.read.new.buf c.from_le_bytes.result c.from_le_bytes.ensures h)
