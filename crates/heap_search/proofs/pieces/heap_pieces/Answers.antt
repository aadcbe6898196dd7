use Rattle.std.proofs.Common.{ap, ◌∙◌}
use Rattle.std.specs.Prelude.{min}
use Rattle.std.proofs.lemmas.List.{drop_all}
use Rattle.heap_search.proofs.PieceSteps.{heaping_done, heaping_more, segment_next}
use Rattle.heap_search.proofs.pieces.heap_pieces.Goals as goal

pub loop-segment-preserved : goal.loop-segment-preserved
loop-segment-preserved c =
    heaping_more c.segment-item.result c.min-words.result c.add_pieces.new.pieces.items c.loop-segment.invariant
    (segment_next c.args.maps.now c.loop-segment.segment-index c.segment-item.result c.loop-segment-test.true
    c.segment-item.is)
    (c.min-words.ensures ∙ ap (λ n. min n c.loop-segment.left) c.words_of.ensures)
    c.in_ok-add_pieces.ensures.added c.in_ok-add_pieces.ensures.each

pub returns-clause-answer : goal.returns-clause-answer
returns-clause-answer c =
    heaping_done c.loop-segment.invariant
    (drop_all c.loop-segment.segment-index c.args.maps.now c.loop-segment-test.false)
