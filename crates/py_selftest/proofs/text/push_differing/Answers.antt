use Rattle.std.proofs.Common.{◌∙◌, ◌++◌, ap, append-nil, map, sym, string_bytes}
use Rattle.std.proofs.lemmas.List.{at_drop_all}
use Rattle.py_selftest.specs.Checking.{key_shown}
use Rattle.py_selftest.specs.Text.{differing_text}
use Rattle.py_selftest.proofs.KeyTexts.{text_more}
use Rattle.py_selftest.proofs.text.push_differing.Goals as goal

pub loop-key-preserved : goal.loop-key-preserved
loop-key-preserved c = text_more c.args.keys.now c.loop-key.key-index _ (string_bytes c.loop-key.text) _ _
    c.loop-key-test.true c.in_ok-push_differ.ensures c.loop-key.invariant

pub returns : goal.returns
unfolding differing_text
returns c =
    sym (append-nil (string_bytes c.loop-key.text))
    ∙ ap (λ t. string_bytes c.loop-key.text ++ t) (sym (at_drop_all (λ xs. differing_text (map key_shown xs))
    c.args.keys.now c.loop-key.key-index c.loop-key-test.false)) ∙ c.loop-key.invariant
