use Rattle.std.proofs.Common.{◌≡◌, ◌≤◌, ◌+◌, drop}
use Rattle.py_selftest.specs.Questions.{count_known}
use Rattle.py_selftest.proofs.questions.count_known.Given as goal

abbrev pub invariant-loop-answer : goal.invariant-loop-answer
invariant-loop-answer l = (l.count ≤ l.answer-index)
    × (l.count + count_known l.counted (drop l.answer-index l.answers) ≡ count_known l.counted l.answers)
