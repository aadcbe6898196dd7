use Rattle.std.proofs.Common.{◌≡◌, take}
use Rattle.std.specs.List.{flat_map}
use Rattle.py_objects.specs.ShownTexts.{escape}
use Rattle.py_objects.proofs.texts.escape.Given as goal

abbrev pub invariant-loop-c : goal.invariant-loop-c
invariant-loop-c l = l.shown.items ≡ flat_map escape (take l.c-index l.c-items)
