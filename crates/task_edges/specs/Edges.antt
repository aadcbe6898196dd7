-- What completes what. That a future or a task calls its callbacks when it is done, and that these complete others or
-- wake tasks, is asyncio's (Lib/asyncio/futures.py, Lib/asyncio/tasks.py, Modules/_asynciomodule.c).
use Rattle.std.specs.Prelude.{ℕ, nat_eq, Option, Some, None, List, [], if◌then◌else◌}
use Rattle.std.specs.BTreeMap.{BTreeMap, get}
use Rattle.std.specs.Global.{Vec}
use Rattle.std.specs.List.{filter_map}
use Rattle.std.specs.Ordering.{nat_cmp}
use Rattle.task_edges.specs.declared.edges.Edge.{Edge}

-- what completes an object by an edge
abbrev pub source_if : ℕ → Edge → Option ℕ
source_if b e = if nat_eq e.to b then Some e.from else None

-- what completes an object, in the order of the edges
abbrev pub sources_of : List Edge → ℕ → List ℕ
sources_of edges b = filter_map (source_if b) edges

-- the items of a list, where there is one
abbrev pub items_or_none : Option (Vec ℕ) → List ℕ
items_or_none None = []
items_or_none (Some v) = v.items

-- the same, where edges are held by what they complete
abbrev pub sources_in : BTreeMap ℕ (Vec ℕ) → ℕ → List ℕ
sources_in index b = items_or_none (get nat_cmp index b)
