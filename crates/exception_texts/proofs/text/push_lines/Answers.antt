use Rattle.std.proofs.Common.{◌++◌, ◌∙◌, ap, get_or, refl, string_bytes}
use Rattle.std.proofs.lemmas.List.{get_or_default}
use Rattle.exception_texts.specs.Text.{line_text}
use Rattle.exception_texts.specs.declared.plan.Line.TheVariants as line
use Rattle.salvage_texts.proofs.Parts.{push_more}
use Rattle.exception_texts.proofs.text.push_lines.Goals as goal

pub loop-line-preserved : goal.loop-line-preserved
loop-line-preserved c =
    push_more (λ x. line_text c.args.told.now x) (string_bytes c.args.text.now) _ _ c.args.lines.now
    c.loop-line.line-index (get_or c.args.lines.now c.loop-line.line-index line.More) line.More c.loop-line-test.true
    refl c.loop-line.invariant
    (c.in_ok-push_line_of.ensures ∙ ap (λ x. string_bytes c.loop-line.text ++ line_text c.args.told.now x)
    (get_or_default c.args.lines.now c.loop-line.line-index _ line.More c.loop-line-test.true))
