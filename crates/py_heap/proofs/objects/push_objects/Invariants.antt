use Rattle.std.proofs.Common.{◌≡◌, ◌++◌, map, take}
use Rattle.py_heap.specs.Objects.{object_at}
use Rattle.py_heap.proofs.objects.push_objects.Given as goal

abbrev pub invariant-loop-member : goal.invariant-loop-member
invariant-loop-member l = l.objects.items
    ≡ l.initial.objects.items ++ map (λ a. object_at l.head_size a) (take l.member-index l.members)
