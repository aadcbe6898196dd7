use Rattle.std.proofs.Common.{arith}
use Rattle.process_memory.proofs.Reading.{reading_gives, reading_none}
use Rattle.process_memory.specs.Memory.{byte_at}
use Rattle.heap_search.specs.Search.{search_of}
use Rattle.heap_search.proofs.SearchSteps.{looks_same, within_is, within_reads, within_spent}
use Rattle.heap_search.proofs.search.look_within.Goals as goal

pub returns-then-members-lt-MEMBERS : goal.returns-then-members-lt-MEMBERS
returns-then-members-lt-MEMBERS g c =
    let contains = g.M.ContainsAddr.contains c.args.maps.now in
    let l = c.args.layout.now in
    let ps = c.args.pointers.now in
    let s = search_of c.args.search.now in
    reading_gives _ _ c.look_at.ensures
    (within_reads contains l ps c.args.class (byte_at (g.P.ProcessMemory.seen c.args.process.now).pieces) s c.args.addr
    (omega arith))
    (λ m h. looks_same _ _ c.look_at.new.search c.look_at.result
    (within_is contains l ps c.args.class m s c.args.addr (omega arith)) h)

pub returns : goal.returns
returns g c =
    reading_none _ _ _ (λ m. within_spent (g.M.ContainsAddr.contains c.args.maps.now) c.args.layout.now
    c.args.pointers.now c.args.class m (search_of c.args.search.now) c.args.addr (omega arith))
