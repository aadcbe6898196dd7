use Rattle.std.proofs.Common.{◌≡◌, ◌+◌, ◌++◌, map, take}
use Rattle.std.specs.List.{sum_by}
use Rattle.memory_builder.specs.Mirror.{local_in}
use Rattle.memory_builder.specs.Sizes.{local_size}
use Rattle.memory_builder.specs.Values.{laid_all, laid_local}
use Rattle.memory_builder.proofs.locals.add_values.Given as goal

-- the values so far, and the next address
abbrev pub invariant-loop-local : goal.invariant-loop-local
invariant-loop-local l = record {
  out : l.out.items ≡ l.fn.out.items ++ laid_all (local_size l.layout) (laid_local l.layout l.types) l.at
      (take l.local-index (map local_in l.locals));
  here : l.here ≡ l.at + sum_by (local_size l.layout) (take l.local-index (map local_in l.locals));
}
