-- Searches for a name, with their reads.
use Rattle.std.proofs.Common.{ℕ, ◌*◌, List, arith}
use Rattle.std.specs.Prelude.{Option, Result}
use Rattle.process_memory.specs.Memory.{Fault, byte_at}
use Rattle.process_memory.specs.Seen.{Reads, Seen}
use Rattle.process_memory.proofs.Reading.{reading_gives}
use Rattle.py_fields.specs.declared.layout.Layout.{Layout}
use Rattle.py_builtins.specs.Consulted.{ConsultsBy}
use Rattle.py_builtins.specs.declared.keys.Slots.{Slots}
use Rattle.py_builtins.proofs.Consulted.{consulting_short}
use Rattle.py_names.proofs.SlotBounds.{find_most}
use Rattle.py_names.specs.Search.{find_from, find_looked}
use Rattle.py_names.specs.declared.search.Looked.{Looked}

-- a search takes at most four reads for each slot that may be looked at
pub find_few : {E : Type 0} {fault : E → Option Fault} {s0 s1 : Seen} {r : Result Looked E} (l : Layout)
    (name : List ℕ) (s : Slots) (limit : ℕ)
    → ConsultsBy l fault (λ m. 4 * find_looked l m name s s.count 0 limit) s0 s1
    (λ m. find_from l m name s s.count 0 limit) r
    → Reads fault (4 * limit) s0 s1 (λ m. find_from l m name s s.count 0 limit) r
find_few {s0 = s0} l name s limit p =
    let few = find_most l (byte_at s0.pieces) name s s.count 0 limit in
    reading_gives (4 * limit) _ (consulting_short p) (omega (arith, few)) (λ m h. h)
