use Rattle.std.proofs.Common.{◌≡◌, ℕ, take}
use Rattle.task_edges.specs.Edges.{sources_in, sources_of}
use Rattle.task_edges.proofs.edges.index_of.Given as goal

-- the edges so far
abbrev pub invariant-loop-edge : goal.invariant-loop-edge
invariant-loop-edge l = (q : ℕ) → sources_in l.index q ≡ sources_of (take l.edge-index l.edges) q
