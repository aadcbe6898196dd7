use Rattle.std.proofs.Common.{◌≡◌, ◌++◌, map, take}
use Rattle.std.specs.List.{flat_map}
use Rattle.memory_builder.specs.Mirror.{local_in}
use Rattle.memory_builder.specs.Values.{laid_name}
use Rattle.memory_builder.proofs.locals.add_names.Given as goal

-- the names so far
abbrev pub invariant-loop-local : goal.invariant-loop-local
invariant-loop-local l = l.out.items ≡ l.fn.out.items ++ flat_map (laid_name l.layout)
    (take l.local-index (map local_in l.locals))
