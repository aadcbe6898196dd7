use Rattle.std.proofs.Common.{arith, ap, length}
use Rattle.std.proofs.lemmas.Result.{err_from_is_err_and}
use Rattle.process_memory.specs.Memory.{byte_at}
use Rattle.py_fronts.specs.Candidates.{led_to}
use Rattle.process_memory.proofs.Reading.{reading_gives, reading_here, reading_then}
use Rattle.py_fronts.proofs.CandidateSteps.{record_added, record_cost}
use Rattle.py_fronts.proofs.Steps.{lost_first}
use Rattle.py_fronts.proofs.candidates.add_record.Goals as goal

pub returns-in_err-words : goal.returns-in_err-words
returns-in_err-words g c =
    let p = err_from_is_err_and c.from_residual.result c.from_residual.ensures.1 in
    rw p.1 (lost_first _ c.in_err-words.ensures.answer p.2 (omega arith))

pub returns : goal.returns
returns g c =
    reading_gives _ _ (reading_then _ c.in_ok-words.ensures.answer c.add_led_to.ensures
    (λ m a b. record_added c.args.layout.now m c.args.interpreter c.in_ok-words.words.items _
    c.args.candidates.now.items _ _ a c.deref.ensures.value b))
    (omega (
      arith,
      ap (λ ps. length (led_to c.args.layout.now (byte_at ps) 0 c.deref.result.now))
          c.in_ok-words.ensures.answer.pieces,
      record_cost c.args.layout.now
          (byte_at (g.P.ProcessMemory.seen c.args.process.now).pieces) c.args.interpreter _ c.deref.result.now
          (reading_here c.in_ok-words.ensures.answer) c.deref.ensures.value,
    )) (λ m h. h)
