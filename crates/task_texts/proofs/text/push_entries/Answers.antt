use Rattle.std.proofs.Common.{◌∙◌, ◌++◌, ap, map, sym, string_bytes}
use Rattle.std.proofs.lemmas.List.{take_all}
use Rattle.std.proofs.lemmas.Simd.{map-map}
use Rattle.std.specs.List.{concat}
use Rattle.py_tasks.specs.Shown.{entry_shown}
use Rattle.task_texts.specs.Text.{entry_text}
use Rattle.salvage_texts.proofs.Parts.{push_more}
use Rattle.task_texts.proofs.text.push_entries.Goals as goal

pub loop-entry-preserved : goal.loop-entry-preserved
loop-entry-preserved c =
    push_more (λ e. entry_text (entry_shown e)) (string_bytes c.args.text.now) _ _ c.args.entries.now
    c.loop-entry.entry-index c.entry-item.result c.entry-item.result c.loop-entry-test.true c.entry-item.is
    c.loop-entry.invariant c.in_ok-push_entry.ensures

pub returns : goal.returns
returns c =
    c.loop-entry.invariant
    ∙ ap (λ xs. string_bytes c.args.text.now ++ concat (map (λ e. entry_text (entry_shown e)) xs))
    (take_all c.loop-entry.entry-index c.args.entries.now c.loop-entry-test.false)
    ∙ ap (λ ts. string_bytes c.args.text.now ++ concat ts)
    (sym (map-map (λ e. entry_text e) entry_shown c.args.entries.now))
