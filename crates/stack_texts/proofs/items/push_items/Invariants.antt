use Rattle.std.proofs.Common.{◌≡◌, ◌++◌, drop, string_bytes}
use Rattle.std.specs.Prelude.{option_copied}
use Rattle.native_stacks.specs.Threads.{thread_shown}
use Rattle.stack_texts.specs.Items.{items_text}
use Rattle.stack_texts.proofs.items.push_items.Given as goal

abbrev pub invariant-loop-item : goal.invariant-loop-item
invariant-loop-item l = string_bytes l.text
    ++ items_text l.files (thread_shown l.thread) (option_copied l.frames) (drop l.item-index l.items)
    ≡ string_bytes l.initial.text ++ items_text l.files (thread_shown l.thread) (option_copied l.frames) l.items
