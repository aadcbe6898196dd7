use Rattle.std.specs.List.{AllWithin}
use Rattle.py_layout.specs.Lists.{Clash}
use Rattle.py_layout.proofs.layouts.first_clash_with.Given as goal

abbrev pub invariant-loop-place : goal.invariant-loop-place
invariant-loop-place l = AllWithin (λ other. ¬ Clash l.layout other) l.list l.start l.place
