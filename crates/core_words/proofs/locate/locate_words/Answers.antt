use Rattle.core_words.proofs.Three.{not_two}
use Rattle.core_words.proofs.locate.locate_words.Goals as goal

pub returns-in_default : goal.returns-in_default
returns-in_default c = not_two c.args.words.now c.in_default.len_below
