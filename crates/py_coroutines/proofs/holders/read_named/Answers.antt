use Rattle.std.proofs.Common.{ap, arith, sym, ◌∙◌}
use Rattle.process_memory.proofs.Reading.{reading_gives, reading_short}
use Rattle.py_coroutines.specs.Holders.{holder_named, named_at}
use Rattle.py_coroutines.proofs.HolderSteps.{named_known, named_lost}
use Rattle.py_coroutines.proofs.holders.read_named.Goals as goal

pub returns-in-Ok : goal.returns-in-Ok
returns-in-Ok g c =
    let is = c.holder_named.ensures ∙ ap (holder_named c.args.holders.now) c.deref.ensures.value in
    reading_gives 1 _ (reading_short c.in-Ok.ensures.answer) (omega arith)
    (λ m p. named_known c.args.holders.now m c.args.name c.in-Ok.chars.items c.holder_named.result p is)

pub returns-in-Err : goal.returns-in-Err
returns-in-Err g c = reading_gives 1 _ (reading_short c.in-Err.ensures.answer) (omega arith)
    (λ m p. named_lost c.args.holders.now m c.args.name c.in-Err.error c.unnamed.result p c.unnamed.ensures)
