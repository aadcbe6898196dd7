use Rattle.std.proofs.Common.{◌≡◌, map, take}
use Rattle.std.specs.List.{sum_by}
use Rattle.memory_builder.specs.Mirror.{local_in}
use Rattle.memory_builder.specs.Sizes.{capped, name_size}
use Rattle.memory_builder.proofs.sizes.names_size.Given as goal

-- the names so far
abbrev pub invariant-loop-local : goal.invariant-loop-local
invariant-loop-local l = l.total ≡ capped (sum_by (name_size l.layout) (take l.local-index (map local_in l.locals)))
