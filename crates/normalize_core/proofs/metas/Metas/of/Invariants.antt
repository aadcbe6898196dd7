use Rattle.std.proofs.Common.{take}
use Rattle.normalize_core.specs.Met.{HasMet}
use Rattle.normalize_core.proofs.metas.Metas.of.Given as goal

abbrev pub invariant-loop-addr : goal.invariant-loop-addr
invariant-loop-addr l = HasMet l.query (take l.addr-index l.ascending) l.metas
