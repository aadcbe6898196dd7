use Rattle.std.proofs.Common.{arith}
use Rattle.process_memory.proofs.Reading.{reading_gives, reading_none}
use Rattle.py_fields.proofs.Fields.{thread_fits}
use Rattle.heap_search.proofs.KnownSteps.{other_id, same_id}
use Rattle.heap_search.proofs.known.is_known.Goals as goal

pub u64_in-id-requires : goal.u64_in-id-requires
u64_in-id-requires g c = omega (arith, (thread_fits c.requires.sound).id, c.requires.whole)

pub returns-then-not-is_among : goal.returns-then-not-is_among
returns-then-not-is_among g c =
    reading_none _ _ _ (λ m. other_id c.args.layout.now m c.args.pointers.now c.args.class c.args.thread.now
    c.u64_in-id.result c.is_among.result c.u64_in-id.ensures c.is_among.ensures c.if-not-is_among.true)

pub returns : goal.returns
returns g c =
    reading_gives _ _ c.is_newest_of.ensures (omega arith)
    (λ m h. same_id c.args.layout.now m c.args.pointers.now c.args.class c.args.thread.now c.u64_in-id.result
    c.is_among.result c.is_newest_of.result c.u64_in-id.ensures c.is_among.ensures c.if-not-is_among.false h)
