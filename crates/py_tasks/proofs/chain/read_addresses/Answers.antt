use Rattle.std.proofs.Common.{◌+◌, ◌*◌, ap, arith}
use Rattle.py_tasks.specs.Chains.{awaits_at}
use Rattle.std.specs.Prelude.{length}
use Rattle.process_memory.proofs.Reading.{reading_here}
use Rattle.py_coroutines.specs.Awaits.{Chain, chain_from}
use Rattle.py_coroutines.specs.Objects.{turn_at}
use Rattle.py_coroutines.specs.Turns.{chain_of}
use Rattle.py_coroutines.proofs.ChainLaws.{awaits_found}
use Rattle.py_tasks.proofs.Chaining.{chain_few, chain_known}
use Rattle.std.proofs.Common.{◌≡◌, []}
use Rattle.process_memory.specs.Memory.{byte_at}
use Rattle.py_tasks.proofs.chain.read_addresses.Goals as goal

pub returns-in-Ok : goal.returns-in-Ok
unfolding awaits_at
returns-in-Ok g c =
    let m = byte_at (g.P.ProcessMemory.seen c.args.process.now).pieces in
    let turn = turn_at c.args.places.now m in
    let is : chain_of c.in-Ok.chain ≡ chain_from turn [] c.args.limit c.args.head =
    reading_here c.in-Ok.ensures.only (chain_from turn [] c.args.limit c.args.head)
    (awaits_found turn c.args.limit c.args.head) in
    let same : length c.in-Ok.chain.members.items ≡ length (chain_from turn [] c.args.limit c.args.head).members = ap
    (λ (x : Chain). length x.members) is in
    let most = chain_few turn [] c.args.limit c.args.head in
    chain_known (turn_at c.args.places.now) c.args.limit c.args.head _ (7 * c.args.limit + 7) c.in-Ok.chain
    c.in-Ok.ensures.only (omega (arith, same, most))
