use Rattle.std.proofs.Common.{◌∙◌, arith, sym}
use Rattle.process_memory.proofs.Reading.{reading_gives, reading_none}
use Rattle.core_unwind.proofs.MarkSteps.{marked_covered, marked_uncovered}
use Rattle.core_unwind.proofs.marked.read_marked.Goals as goal

pub returns-then-not-stops_uncovered : goal.returns-then-not-stops_uncovered
returns-then-not-stops_uncovered g c = reading_none 69 _ _ (λ m. marked_covered c.args.mappings.now c.args.manner.now m
    c.args.state.now c.args.tabled.now (sym c.stops_uncovered.ensures ∙ c.if-not-stops_uncovered.true))

pub returns : goal.returns
returns g c = reading_gives 69 _ c.read_uncovered.ensures (omega arith) (λ m h. marked_uncovered c.args.mappings.now
    c.args.manner.now m c.args.state.now c.args.tabled.now c.read_uncovered.result
    (sym c.stops_uncovered.ensures ∙ c.if-not-stops_uncovered.false) h)
