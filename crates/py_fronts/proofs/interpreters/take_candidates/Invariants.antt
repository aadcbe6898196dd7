use Rattle.std.proofs.Common.{take}
use Rattle.std.specs.Prelude.{false}
use Rattle.py_fronts.specs.Interpreters.{Taking, finds_of}
use Rattle.py_fronts.proofs.interpreters.take_candidates.Given as goal

abbrev pub invariant-loop-addr : goal.invariant-loop-addr
invariant-loop-addr g l = Taking false (g.M.ContainsAddr.contains l.maps) l.layout (finds_of l.fn.finds) (g.P.ProcessMemory.seen l.initial.process) (g.P.ProcessMemory.seen l.process) (take l.addr-index l.candidates) l.finds
