use Rattle.std.proofs.Common.{◌≡◌, ◌∙◌, ap, sym, arith}
use Rattle.std.specs.Prelude.{Ok}
use Rattle.process_memory.specs.Memory.{record_at}
use Rattle.process_memory.proofs.Reading.{reading_none}
use Rattle.process_memory.proofs.Records.{record_past, record_none}
use Rattle.process_memory.proofs.readers.record_wide.Goals as goal

pub returns-then-len-eq0-clause-answer : goal.returns-then-len-eq0-clause-answer
returns-then-len-eq0-clause-answer g c =
    let none : c.args.len ≡ 0 = omega arith in
    reading_none 1 _ _ (λ m. record { is = ap (record_at m c.args.addr) none ∙ record_none m c.args.addr ∙ ap Ok (sym c.new.ensures.items) })

pub returns-clause-answer : goal.returns-clause-answer
returns-clause-answer g c = reading_none 1 _ _ (λ m. record { is = record_past m c.args.addr c.args.len (omega arith) (omega arith) })
