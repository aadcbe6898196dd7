use Rattle.std.proofs.Common.{◌∙◌, ap, arith, map}
use Rattle.std.proofs.lemmas.List.{at_drop_all}
use Rattle.py_selftest.specs.Checking.{key_shown}
use Rattle.py_selftest.specs.Text.{count_told}
use Rattle.py_selftest.specs.Questions.{one_if}
use Rattle.py_selftest.proofs.KeyTexts.{count_more}
use Rattle.py_selftest.proofs.text.count_told.Goals as goal

pub loop-key-preserved : goal.loop-key-preserved
loop-key-preserved c = (
  omega (arith, c.loop-key.invariant.0, c.one_if-count.ensures.most),
  count_more c.args.keys.now c.loop-key.key-index _ c.args.told c.loop-key.count c.one_if-count.result _
      c.loop-key-test.true
      (c.one_if-count.ensures.is ∙ ap one_if c.is_told.ensures) c.loop-key.invariant.1,
)

pub returns : goal.returns
unfolding count_told
returns c =
    let end = at_drop_all (λ ks. count_told c.args.told (map key_shown ks)) c.args.keys.now c.loop-key.key-index
    c.loop-key-test.false in
    omega (arith, end, c.loop-key.invariant.1)
