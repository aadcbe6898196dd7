use Rattle.std.proofs.Common.{◌++◌, ap, sym, ◌∙◌}
use Rattle.std.proofs.lemmas.List.{drop_all}
use Rattle.process_memory.specs.declared.memory.Span.{Span}
use Rattle.core_slim.specs.Slim.{slim_segments}
use Rattle.core_slim.proofs.Pieces.{segment_more}
use Rattle.core_slim.proofs.writing.slim_segments.Goals as goal

pub loop-piece-init : goal.loop-piece-init
loop-piece-init c =
    ap (λ ss. ss ++ slim_segments c.args.start c.args.notes_size c.args.pieces.now) c.new-segments.ensures.items

pub loop-piece-preserved : goal.loop-piece-preserved
loop-piece-preserved c =
    let none : Span = record { start = 0; len = 0 } in
    segment_more _ c.loop-piece.segments.items c.push.new.self.items c.loop-piece.offset c.in-Some.next
    c.args.notes_size c.args.pieces.now c.loop-piece.piece-index none c.loop-piece-test.true c.loop-piece.invariant
    c.in_ok-push.ensures.items
    c.in-Some.ensures.1

pub returns : goal.returns
returns c =
    c.in_ok-push-2.ensures.items
    ∙ ap (λ ps. c.loop-piece.segments.items ++ slim_segments c.loop-piece.offset c.args.notes_size ps)
    (sym (drop_all c.loop-piece.piece-index c.args.pieces.now c.loop-piece-test.false))
    ∙ c.loop-piece.invariant
