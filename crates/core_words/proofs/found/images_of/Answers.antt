use Rattle.std.proofs.Common.{◌∙◌, ℕ, List, [], Bor, ap, get_or, map, sym}
use Rattle.std.proofs.lemmas.List.{take_all}
use Rattle.std.specs.List.{list_all}
use Rattle.core_words.specs.Dump.{image_of, is_image}
use Rattle.core_words.proofs.Images.{whole, not_whole, not_split}
use Rattle.core_words.proofs.found.images_of.Goals as goal

pub returns-in_default : goal.returns-in_default
returns-in_default c =
    let words = c.args.words.now in
    let i = c.loop-word.word-index in
    let none : Bor (List ℕ) = record { ref_ptr = (0, 0); now = [] } in
    not_whole words i none c.loop-word-test.true (not_split (get_or words i none).now c.in_default.ensures)

pub returns : goal.returns
returns c =
    let all = take_all c.loop-word.word-index c.args.words.now c.loop-word-test.false in
    whole c.args.words.now c.loop-word.images.items
    (ap (λ ws. list_all (λ w. is_image w.now) ws) (sym all) ∙ c.loop-word.invariant.each)
    (c.loop-word.invariant.images ∙ ap (λ ws. map (λ w. image_of w.now) ws) all)
