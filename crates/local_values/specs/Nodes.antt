-- How many values a value is: itself, and each within it.
use Rattle.std.specs.Prelude.{ℕ, ◌+◌}
use Rattle.py_reprs.specs.Trees.{Tree, Trees, no_trees, tree}
use Rattle.py_reprs.specs.Trees.Tree.{Items, Pairs, Instance}

unfoldable mutual
  -- how many nodes a value has, itself and its parts
  pub nodes_of : Tree → ℕ
  nodes_of (Items form items left_out) = 1 + nodes_in items
  nodes_of (Pairs keys values left_out) = 1 + (nodes_in keys + nodes_in values)
  nodes_of (Instance class addr names values left_out) = 1 + (nodes_in names + nodes_in values)
  nodes_of _ = 1

  -- how many nodes some values have
  pub nodes_in : Trees → ℕ
  nodes_in no_trees = 0
  nodes_in (tree t ts) = nodes_of t + nodes_in ts
