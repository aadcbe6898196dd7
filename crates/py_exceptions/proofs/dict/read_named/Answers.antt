use Rattle.std.proofs.Common.{ap, arith, refl}
use Rattle.std.proofs.lemmas.Result.{err_from_is_err_and}
use Rattle.process_memory.specs.Memory.{byte_at}
use Rattle.process_memory.proofs.Reading.{reads_end, reads_halt, reads_next}
use Rattle.py_builtins.proofs.Consulted.{consulting_short}
use Rattle.py_names.specs.NamesError.{names_fault}
use Rattle.py_names.proofs.SlotBounds.{find_most}
use Rattle.py_exceptions.specs.Entries.{named_at}
use Rattle.py_exceptions.proofs.dict.read_named.Goals as goal

pub returns-in_err-search : goal.returns-in_err-search
unfolding named_at
returns-in_err-search g c =
    let p = err_from_is_err_and c.from_residual.result c.from_residual.ensures.1 in
    let slots = c.args.slots.now.slots in
    let few = find_most c.args.layout.now (byte_at (g.P.ProcessMemory.seen c.args.process.now).pieces)
    c.args.name.now slots slots.count 0 4096 in
    rw p.1 (reads_halt 16384 p.0 _ (consulting_short c.in_err-search.ensures.answer) (ap names_fault p.2) (omega
    (arith, few)))

pub returns : goal.returns
unfolding named_at
returns g c =
    let slots = c.args.slots.now.slots in
    let few = find_most c.args.layout.now (byte_at (g.P.ProcessMemory.seen c.args.process.now).pieces)
    c.args.name.now slots slots.count 0 4096 in
    reads_next {k = 0} 16384 _ (consulting_short c.in_ok-search.ensures.answer) (reads_end 0 refl) (omega (arith, few))
