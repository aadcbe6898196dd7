use Rattle.std.proofs.Common.{◌≡◌, ◌++◌, drop}
use Rattle.toml.specs.View.{items_view}
use Rattle.py_layout.specs.File.{layouts_in}
use Rattle.py_layout.proofs.file.layouts_in.Given as goal

abbrev pub invariant-loop-value : goal.invariant-loop-value
invariant-loop-value l = l.layouts.items ++ layouts_in (items_view (drop l.value-index l.list)) ≡ layouts_in (items_view l.list)
