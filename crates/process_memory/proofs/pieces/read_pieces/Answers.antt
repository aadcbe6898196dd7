use Rattle.std.proofs.Common.{arith, ◌∙◌}
use Rattle.process_memory.proofs.Records.{record_each, record_lack}
use Rattle.process_memory.proofs.pieces.read_pieces.Goals as goal

pub returns-then-read_whole-clause-gives : goal.returns-then-read_whole-clause-gives
returns-then-read_whole-clause-gives g c =
    rw (← c.read_whole.auto.buf) (record { is = record_each _ _ _ (omega arith) c.if-read_whole.ensures.whole })

pub returns-then-not-holds-clause-gives : goal.returns-then-not-holds-clause-gives
returns-then-not-holds-clause-gives g c =
    let no = c.if-not-holds.ensures.no in
    rw (← c.read_whole.auto.buf) (record { is = record_lack _ _ _ no.0 (omega arith) no.1 no.2 })

pub returns-clause-gives : goal.returns-clause-gives
returns-clause-gives g c =
    let same = c.fill.auto.buf ∙ c.read_whole.auto.buf in
    rw (← same) (record { is = record_each _ _ _ (omega arith) c.fill.ensures })
