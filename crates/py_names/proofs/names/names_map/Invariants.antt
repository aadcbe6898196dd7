use Rattle.py_names.specs.Names.{HasNames}
use Rattle.py_names.proofs.names.names_map.Given as goal

abbrev pub invariant-loop-named : goal.invariant-loop-named
invariant-loop-named l = HasNames l.map l.yielded
