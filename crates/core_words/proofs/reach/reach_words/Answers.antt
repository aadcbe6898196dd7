use Rattle.core_words.proofs.Three.{not_three}
use Rattle.core_words.proofs.reach.reach_words.Goals as goal

pub returns-in_default : goal.returns-in_default
returns-in_default c = not_three c.args.words.now c.in_default.len_below
