use Rattle.std.proofs.Common.{◌+◌, sym, subst, drop}
use Rattle.std.proofs.lemmas.Result.{err_from_is_err_and}
use Rattle.core_texts.specs.Parts.{said}
use Rattle.core_texts.specs.Says.{IsAdded, IsCutOff}
use Rattle.core_texts.proofs.Padding.{said_more, said_split}
use Rattle.core_texts.proofs.Pieces.{cut_off, then_added, then_cut}
use Rattle.core_texts.proofs.line.write_parts.Goals as goal

pub returns-in_err-write_part : goal.returns-in_err-write_part
returns-in_err-write_part g c =
    let p = err_from_is_err_and c.from_residual.result c.from_residual.ensures.1 in
    let i = c.loop-part.part-index in
    let parts = c.args.parts.now in
    rw p.1 (subst (λ t. IsCutOff (g.S.Sink.seen c.args.sink.now) (g.S.Sink.seen c.write_part.new.sink) t) (sym (said_split parts i _ c.loop-part-test.true))
    (cut_off _ _ _ (said (drop (i + 1) parts)) (then_cut _ _ _ _ _ c.loop-part.invariant c.in_err-write_part.ensures)))

pub loop-part-preserved : goal.loop-part-preserved
loop-part-preserved g c =
    subst (λ t. IsAdded (g.S.Sink.seen c.args.sink.now) (g.S.Sink.seen c.write_part.new.sink) t)
    (sym (said_more c.args.parts.now c.loop-part.part-index _ c.loop-part-test.true))
    (then_added _ _ _ _ _ c.loop-part.invariant c.in_ok-write_part.ensures)
