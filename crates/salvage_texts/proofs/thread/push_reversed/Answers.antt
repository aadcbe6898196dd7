use Rattle.std.proofs.Common.{◌∙◌, ◌++◌, map, sym, ap, append_assoc, string_bytes, reverse}
use Rattle.std.specs.List.{concat}
use Rattle.salvage_texts.specs.Threads.{thread_text}
use Rattle.salvage_texts.proofs.Parts.{last_part}
use Rattle.salvage_texts.proofs.thread.push_reversed.Goals as goal

pub loop-thread-preserved : goal.loop-thread-preserved
loop-thread-preserved c =
    let rest = concat (map (λ t. thread_text c.args.values.now c.args.lock c.args.crash c.args.names.now t) (reverse c.next.new.self.iter.rest.now)) in
    ap (λ t. t ++ rest) c.in_ok-push_thread.ensures
    ∙ append_assoc (string_bytes c.loop-thread.text) (thread_text c.args.values.now c.args.lock c.args.crash c.args.names.now c.in-Some.thread.now) rest
    ∙ ap (λ t. string_bytes c.loop-thread.text ++ t)
    (sym (last_part (λ t. thread_text c.args.values.now c.args.lock c.args.crash c.args.names.now t) _ _ _ c.in-Some.ensures.steps))
    ∙ c.loop-thread.invariant
