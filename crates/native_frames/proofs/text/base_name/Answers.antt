use Rattle.std.proofs.Common.{◌+◌, ◌∙◌, ap, drop, sym}
use Rattle.std.proofs.lemmas.List.{at_drop_all}
use Rattle.native_frames.specs.Text.{base_from}
use Rattle.native_frames.proofs.Names.{base_more}
use Rattle.native_frames.proofs.text.base_name.Goals as goal

pub loop-index-preserved : goal.loop-index-preserved
loop-index-preserved c =
    let path = c.args.path.now in
    let i = c.loop-index.index in
    ap (λ b. base_from b (drop (i + 1) path)) c.base_behind-base.ensures
    ∙ sym (base_more c.loop-index.base.now path i c.loop-index-test.true) ∙ c.loop-index.invariant

pub returns : goal.returns
unfolding base_from
returns c =
    sym (at_drop_all (λ xs. base_from c.loop-index.base.now xs) c.args.path.now c.loop-index.index
    c.loop-index-test.false) ∙ c.loop-index.invariant
