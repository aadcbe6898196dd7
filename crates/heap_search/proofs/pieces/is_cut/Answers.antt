use Rattle.std.proofs.Common.{arith}
use Rattle.std.proofs.lemmas.List.{drop_all}
use Rattle.heap_search.proofs.PieceSteps.{off_done, off_here, off_init, off_more, segment_next}
use Rattle.heap_search.proofs.pieces.is_cut.Goals as goal

pub loop-segment-init : goal.loop-segment-init
loop-segment-init c = off_init c.args.maps.now

pub returns-then-words-all : goal.returns-then-words-all
returns-then-words-all c =
    off_here c.segment-item.result c.min-words.result c.words_of-all.result c.loop-segment.invariant
    (segment_next c.args.maps.now c.loop-segment.segment-index c.segment-item.result c.loop-segment-test.true
    c.segment-item.is) c.words_of-all.ensures c.min-words.ensures (omega arith)

pub loop-segment-preserved : goal.loop-segment-preserved
loop-segment-preserved c =
    off_more c.segment-item.result c.min-words.result c.words_of-all.result c.loop-segment.invariant
    (segment_next c.args.maps.now c.loop-segment.segment-index c.segment-item.result c.loop-segment-test.true
    c.segment-item.is) c.words_of-all.ensures c.min-words.ensures (omega arith)

pub returns : goal.returns
returns c =
    off_done c.loop-segment.invariant
    (drop_all c.loop-segment.segment-index c.args.maps.now c.loop-segment-test.false)
