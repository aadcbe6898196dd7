use Rattle.std.proofs.Common.{◌∙◌, ap, arith}
use Rattle.std.proofs.lemmas.List.{at_drop_all}
use Rattle.py_selftest.specs.Questions.{count_known, one_if}
use Rattle.py_selftest.proofs.Counting.{known_more}
use Rattle.py_selftest.proofs.questions.count_known.Goals as goal

pub loop-answer-preserved : goal.loop-answer-preserved
loop-answer-preserved c = (
  omega (arith, c.loop-answer.invariant.0, c.one_if-count.ensures.most),
  known_more c.args.answers.now c.loop-answer.answer-index _ c.args.counted c.loop-answer.count
      c.one_if-count.result _
      c.loop-answer-test.true
      (c.one_if-count.ensures.is ∙ ap one_if c.is_counted.ensures) c.loop-answer.invariant.1,
)

pub returns : goal.returns
unfolding count_known
returns c =
    let end = at_drop_all (λ xs. count_known c.args.counted xs) c.args.answers.now c.loop-answer.answer-index
    c.loop-answer-test.false in
    omega (arith, end, c.loop-answer.invariant.1)
