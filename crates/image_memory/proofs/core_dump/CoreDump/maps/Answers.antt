use Rattle.std.proofs.Common.{subst}
use Rattle.image_memory.specs.Cores.{IsCore}
use Rattle.image_memory.specs.Maps.{AreMaps}
use Rattle.image_memory.proofs.Noted.{AreMaps-once}
use Rattle.image_memory.proofs.core_dump.CoreDump.maps.Goals as goal

pub returns-clause-only : goal.returns-clause-only
returns-clause-only c = λ maps h.
    let items = c.self.inside.contents.maps.items in
    AreMaps-once c.args.self.now maps items h (subst (λ bytes. AreMaps bytes items) c.self.view_is c.self.invariant.maps_are)

pub returns-clause-core : goal.returns-clause-core
returns-clause-core c = subst IsCore c.self.view_is c.self.invariant.core
