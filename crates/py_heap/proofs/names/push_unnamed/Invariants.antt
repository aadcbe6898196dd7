use Rattle.std.proofs.Common.{◌≡◌, ◌++◌, map, take}
use Rattle.py_heap.specs.Names.{unnamed}
use Rattle.py_heap.proofs.names.push_unnamed.Given as goal

abbrev pub invariant-loop-counted : goal.invariant-loop-counted
invariant-loop-counted l = l.named.items ≡ l.initial.named.items ++ map unnamed (take l.counted-index l.classes)
