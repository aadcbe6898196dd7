use Rattle.std.proofs.Common.{arith, min, ◌≡◌, ◌/◌}
use Rattle.process_memory.proofs.Reading.{reading_gives, reading_here, reading_wider}
use Rattle.py_fronts.proofs.CandidateSteps.{words_few_recorded, words_recorded}
use Rattle.py_fronts.proofs.candidates.record_words.Goals as goal

pub returns-clause-answer : goal.returns-clause-answer
returns-clause-answer g c =
    let count : c.from.result ≡ min (c.args.layout.now.interpreter.threads / 8) 1024 = omega arith in
    reading_gives _ _ (reading_wider _ c.in_ok-add_section.ensures (λ m s is. rw is (omega (arith, count)))) (omega arith)
    (λ m a. words_recorded c.args.layout.now m c.args.interpreter c.from.result c.new-words.result.items _
    c.new-words.ensures.items count a)

pub returns-clause-few : goal.returns-clause-few
returns-clause-few g c =
    let count : c.from.result ≡ min (c.args.layout.now.interpreter.threads / 8) 1024 = omega arith in
    omega (
      arith,
      words_few_recorded c.args.layout.now _ c.args.interpreter _
          (words_recorded c.args.layout.now _ c.args.interpreter c.from.result c.new-words.result.items _
          c.new-words.ensures.items count (reading_here c.in_ok-add_section.ensures)),
    )
