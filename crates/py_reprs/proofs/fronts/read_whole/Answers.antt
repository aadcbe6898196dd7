use Rattle.std.proofs.Common.{arith}
use Rattle.process_memory.proofs.Reading.{reading_gives, reading_none}
use Rattle.py_reprs.proofs.Pieces.{record_nothing, whole_missing, whole_there}
use Rattle.py_reprs.proofs.fronts.read_whole.Goals as goal

pub returns-then-length-eq0 : goal.returns-then-length-eq0
returns-then-length-eq0 g c = reading_none _ _ _ (λ m. record {
  is = record_nothing m c.args.at c.args.length _ c.if-length-eq0.true c.requires.within c.new.ensures.items;
})

pub returns-in-Ok-Some : goal.returns-in-Ok-Some
returns-in-Ok-Some g c = reading_gives _ _ (rw c.in-Ok-Some.field-0-is at c.in-Ok-Some.ensures) (omega arith)
    (λ m h. whole_there m c.args.at c.args.length _ (omega arith) c.requires.within h)

pub returns-in-Ok-None : goal.returns-in-Ok-None
returns-in-Ok-None g c = reading_gives _ _ (rw c.in-Ok-None.field-0-is at c.in-Ok-None.ensures) (omega arith)
    (λ m h. whole_missing m c.args.at c.args.length (omega arith) c.requires.within h)
