use Rattle.std.proofs.Common.{sym}
use Rattle.process_memory.proofs.Reading.{reads_end, reads_same}
use Rattle.instance_dicts.proofs.HeldSteps.{word_odd, word_even}
use Rattle.instance_dicts.proofs.managed.one_word.Goals as goal

pub returns-then-word-eq1 : goal.returns-then-word-eq1
returns-then-word-eq1 g c =
    reads_same _ _ (λ m. word_odd c.args.fields.now m c.args.class c.args.word c.if-word-eq1.true) c.values_with.ensures

pub returns : goal.returns
returns g c =
    reads_same _ _ (λ m. word_even c.args.fields.now m c.args.class c.args.word c.if-word-eq1.false)
    (reads_end 1 (sym c.dict_or_none.ensures))
