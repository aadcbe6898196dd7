use Rattle.std.proofs.Common.{◌∙◌, ◌++◌, ap, append-nil, get_or, refl, sym, string_bytes}
use Rattle.std.specs.Prelude.{option_copied}
use Rattle.std.proofs.lemmas.List.{at_drop_all}
use Rattle.native_pairs.specs.declared.item.Item.TheVariants.{Python}
use Rattle.native_stacks.specs.Threads.{thread_shown}
use Rattle.native_stacks.proofs.Rest.{next, part_more}
use Rattle.stack_texts.specs.Items.{item_text, items_text}
use Rattle.stack_texts.proofs.items.push_items.Goals as goal

pub loop-item-preserved : goal.loop-item-preserved
loop-item-preserved c =
    let items = c.args.items.now in
    let i = c.loop-item.item-index in
    let x = get_or items i (Python 0) in
    let lines = items_text c.args.files.now (thread_shown c.args.thread.now) (option_copied c.args.frames) in
    part_more lines (item_text c.args.files.now (thread_shown c.args.thread.now) (option_copied c.args.frames) x)
    (string_bytes c.loop-item.text) _ _ items i (ap lines (next items i x (Python 0) c.loop-item-test.true refl))
    c.loop-item.invariant c.in_ok-push_item.ensures

pub returns : goal.returns
returns c =
    sym (append-nil (string_bytes c.loop-item.text))
    ∙ ap (λ t. string_bytes c.loop-item.text ++ t)
    (sym (at_drop_all (items_text c.args.files.now (thread_shown c.args.thread.now) (option_copied c.args.frames))
    c.args.items.now c.loop-item.item-index c.loop-item-test.false)) ∙ c.loop-item.invariant
