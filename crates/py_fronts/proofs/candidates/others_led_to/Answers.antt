use Rattle.std.proofs.Common.{arith}
use Rattle.process_memory.proofs.Reading.{reading_gives, reading_here}
use Rattle.py_fronts.proofs.CandidateSteps.{record_few, record_led}
use Rattle.py_fronts.proofs.candidates.others_led_to.Goals as goal

pub returns-clause-answer : goal.returns-clause-answer
returns-clause-answer g c =
    reading_gives _ _ c.in_ok-add_record.ensures (omega arith)
    (λ m a. record_led c.args.layout.now m c.args.interpreter c.new-words.result.items _ _ c.new-words.ensures.items a
    c.drop_address.ensures)

pub returns-clause-few : goal.returns-clause-few
returns-clause-few g c =
    record_few c.args.layout.now _ c.args.interpreter _ (record_led c.args.layout.now _ c.args.interpreter
    c.new-words.result.items _ _ c.new-words.ensures.items (reading_here c.in_ok-add_record.ensures)
    c.drop_address.ensures)
