use Rattle.std.proofs.Common.{◌∙◌, ◌++◌, false, map, sym, ap, append_assoc, string_bytes, reverse}
use Rattle.std.specs.List.{concat}
use Rattle.core_texts.specs.Text.{trace_text}
use Rattle.core_texts.proofs.Texts.{last_part}
use Rattle.core_texts.proofs.text.push_walk.Goals as goal

pub loop-trace-preserved : goal.loop-trace-preserved
loop-trace-preserved c =
    let rest = concat (map (λ t. trace_text false t) (reverse c.next.new.self.iter.rest.now)) in
    ap (λ t. t ++ rest) c.in_ok-push_trace.ensures
    ∙ append_assoc (string_bytes c.loop-trace.text) (trace_text false c.in-Some.trace.now) rest
    ∙ ap (λ t. string_bytes c.loop-trace.text ++ t) (sym (last_part (λ t. trace_text false t) _ _ _ c.in-Some.ensures.steps))
    ∙ c.loop-trace.invariant
