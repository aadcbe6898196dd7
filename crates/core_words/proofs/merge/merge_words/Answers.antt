use Rattle.core_words.proofs.Three.{not_four}
use Rattle.core_words.proofs.merge.merge_words.Goals as goal

pub returns-in_default : goal.returns-in_default
returns-in_default c = not_four c.args.words.now c.in_default.len_below
