-- What was read, as definitions have it.
use Rattle.std.specs.Prelude.{Result, Ok, Err}
use Rattle.py_reprs.specs.declared.repr.Repr.{Repr}
use Rattle.py_reprs.specs.Trees.{Tree, tree_of}

-- the tree that was read
abbrev pub trees_found : {E : Type 0} → Result Repr E → Result Tree E
trees_found (Ok r) = Ok (tree_of r)
trees_found (Err e) = Err e
