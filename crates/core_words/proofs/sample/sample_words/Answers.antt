use Rattle.core_words.proofs.Three.{too_many}
use Rattle.core_words.proofs.sample.sample_words.Goals as goal

pub returns-in_default-3 : goal.returns-in_default-3
returns-in_default-3 c = too_many c.args.words.now c.in_default.len_at_least
