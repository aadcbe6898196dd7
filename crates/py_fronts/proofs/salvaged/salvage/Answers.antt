use Rattle.std.proofs.Common.{arith, refl}
use Rattle.std.proofs.lemmas.Result.{err_from_is_err_and}
use Rattle.process_memory.specs.Memory.{byte_at}
use Rattle.process_memory.proofs.Reading.{reading_gives, reading_here, reading_then}
use Rattle.py_process.specs.Facts.{known_of}
use Rattle.py_process.proofs.Sections.{searching}
use Rattle.py_fronts.proofs.ReadLimits.{shown_number}
use Rattle.py_fronts.proofs.Steps.{lost_then}
use Rattle.py_fronts.proofs.Locking.{read_few, salvaged_is}
use Rattle.py_fronts.proofs.salvaged.salvage.Goals as goal

pub returns-in_err-interpreters-clause-answer : goal.returns-in_err-interpreters-clause-answer
returns-in_err-interpreters-clause-answer g c =
    let p = err_from_is_err_and c.from_residual-in_err-interpreters.result
    c.from_residual-in_err-interpreters.ensures.1 in
    let few = read_few (g.M.ContainsAddr.contains c.args.info.now.maps) (known_of c.args.info.now) c.args.version.now
    c.args.layout.now (byte_at (g.P.ProcessMemory.seen c.args.process.now).pieces) c.args.asked c.args.limit
    c.in_ok-fronts.fronts.interpreters.items
    c.in_ok-fronts.fronts.more c.in_ok-fronts.fronts.looked (reading_here c.in_ok-fronts.ensures.answer) in
    rw p.1 (lost_then _ c.in_ok-fronts.ensures.answer
    (searching (known_of c.args.info.now) c.in_err-interpreters.ensures) p.2 (omega (arith, few)))

pub returns-clause-answer : goal.returns-clause-answer
returns-clause-answer g c =
    let few = read_few (g.M.ContainsAddr.contains c.args.info.now.maps) (known_of c.args.info.now) c.args.version.now
    c.args.layout.now (byte_at (g.P.ProcessMemory.seen c.args.process.now).pieces) c.args.asked c.args.limit
    c.in_ok-fronts.fronts.interpreters.items
    c.in_ok-fronts.fronts.more c.in_ok-fronts.fronts.looked (reading_here c.in_ok-fronts.ensures.answer) in
    reading_gives _ _
    (reading_then _ c.in_ok-fronts.ensures.answer
    (searching (known_of c.args.info.now) c.in_ok-interpreters.ensures)
    (λ m a b. salvaged_is (g.M.ContainsAddr.contains c.args.info.now.maps) c.args.machine (known_of c.args.info.now)
    c.args.version.now c.args.layout.now m c.args.asked c.args.limit c.args.crash _ _ _ _ _ a refl b))
    (omega (arith, few)) (λ m h. h)

pub returns-in_err-interpreters-clause-most : goal.returns-in_err-interpreters-clause-most
returns-in_err-interpreters-clause-most g c =
    let few = read_few (g.M.ContainsAddr.contains c.args.info.now.maps) (known_of c.args.info.now) c.args.version.now
    c.args.layout.now (byte_at (g.P.ProcessMemory.seen c.args.process.now).pieces) c.args.asked c.args.limit
    c.in_ok-fronts.fronts.interpreters.items c.in_ok-fronts.fronts.more c.in_ok-fronts.fronts.looked (reading_here c.in_ok-fronts.ensures.answer) in
    let number = shown_number (g.M.ContainsAddr.contains c.args.info.now.maps) (known_of c.args.info.now)
    c.args.version.now c.args.layout.now (byte_at (g.P.ProcessMemory.seen c.args.process.now).pieces) c.args.asked
    c.args.limit in
    omega (arith, c.in_ok-fronts.ensures.most, c.in_err-interpreters.ensures.cost, few, number)

pub returns-clause-most : goal.returns-clause-most
returns-clause-most g c =
    let few = read_few (g.M.ContainsAddr.contains c.args.info.now.maps) (known_of c.args.info.now) c.args.version.now
    c.args.layout.now (byte_at (g.P.ProcessMemory.seen c.args.process.now).pieces) c.args.asked c.args.limit
    c.in_ok-fronts.fronts.interpreters.items c.in_ok-fronts.fronts.more c.in_ok-fronts.fronts.looked (reading_here c.in_ok-fronts.ensures.answer) in
    let number = shown_number (g.M.ContainsAddr.contains c.args.info.now.maps) (known_of c.args.info.now)
    c.args.version.now c.args.layout.now (byte_at (g.P.ProcessMemory.seen c.args.process.now).pieces) c.args.asked
    c.args.limit in
    omega (arith, c.in_ok-fronts.ensures.most, c.in_ok-interpreters.ensures.cost, few, number)

pub returns-in_err-fronts-clause-most : goal.returns-in_err-fronts-clause-most
returns-in_err-fronts-clause-most g c = omega (arith, c.in_err-fronts.ensures.most)
