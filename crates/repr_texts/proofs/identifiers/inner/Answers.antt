use Rattle.repr_texts.proofs.Attributing.{inner_short}
use Rattle.repr_texts.proofs.identifiers.inner.Goals as goal

pub returns-then-bytes-lt2 : goal.returns-then-bytes-lt2
returns-then-bytes-lt2 c = inner_short _ c.if-bytes-lt2.true
