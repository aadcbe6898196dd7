use Rattle.core_words.proofs.Three.{no_level}
use Rattle.core_words.proofs.slim.slim_words.Goals as goal

pub returns-in_default : goal.returns-in_default
returns-in_default c = no_level c.args.words.now c.in_default.len_below
