use Rattle.std.proofs.Common.{arith}
use Rattle.process_memory.proofs.Reading.{reading_gives, reading_none}
use Rattle.process_memory.specs.Memory.{byte_at}
use Rattle.py_fronts.specs.Interpreters.{search_of}
use Rattle.py_fronts.proofs.SearchSteps.{looks_same, within_is, within_reads, within_spent}
use Rattle.py_fronts.proofs.search.look_within.Goals as goal

pub returns-then-members-lt-SEARCH_LIMIT : goal.returns-then-members-lt-SEARCH_LIMIT
returns-then-members-lt-SEARCH_LIMIT g c =
    let contains = g.M.ContainsAddr.contains c.args.maps.now in
    let l = c.args.layout.now in
    let s = search_of c.args.search.now in
    reading_gives _ _ c.look_at.ensures
    (within_reads contains l (byte_at (g.P.ProcessMemory.seen c.args.process.now).pieces) s c.args.addr (omega arith))
    (λ m h. looks_same _ _ c.look_at.new.search c.look_at.result (within_is contains l m s c.args.addr (omega arith)) h)

pub returns : goal.returns
returns g c =
    let contains = g.M.ContainsAddr.contains c.args.maps.now in
    reading_none _ _ _ (λ m. within_spent contains c.args.layout.now m (search_of c.args.search.now) c.args.addr (omega arith))
