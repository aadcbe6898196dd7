use Rattle.std.proofs.Common.{subst}
use Rattle.image_memory.specs.Backed.{Backed}
use Rattle.image_memory.specs.Cores.{IsCore}
use Rattle.image_memory.proofs.backed_dump.BackedDump.core.Goals as goal

pub returns-clause-core : goal.returns-clause-core
returns-clause-core c = subst (λ (dump : Backed). IsCore dump.core) c.self.view_is c.self.invariant.core
