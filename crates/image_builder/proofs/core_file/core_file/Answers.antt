use Rattle.std.proofs.Common.{◌∙◌, ◌++◌, [], ap, refl, length, arith, append_assoc}
use Rattle.image_builder.specs.CoreFiles.{core_file, core_head}
use Rattle.image_builder.specs.Records.{filled}
use Rattle.image_builder.proofs.Appending.{filled_is}
use Rattle.image_builder.proofs.Lengths.{length-core_head}
use Rattle.image_builder.proofs.core_file.core_file.Goals as goal

pub returns : goal.returns
unfolding core_file
returns c =
    let objects = c.args.objects.now in
    let head = core_head c.args.machine (length objects) in
    let page = filled 0x1000 head in
    let head_is = c.in_ok-add_head.ensures ∙ ap (λ xs. xs ++ head) c.new-core.ensures.items in
    let page_is = c.in_ok-resize.ensures.items ∙ filled_is [] head c.add_head.new.out.items 0x1000 0x1000
    c.add_head.new.out.len (omega (arith, length-core_head c.args.machine (length objects))) refl head_is
    c.add_head.new.out.ok.0 in
    c.in_ok-extend_from_slice-3.ensures.items ∙ ap (λ xs. xs ++ objects) c.in_ok-extend_from_slice-2.ensures.items
    ∙ ap (λ xs. xs ++ c.args.words.now ++ objects) c.in_ok-extend_from_slice.ensures.items
    ∙ ap (λ xs. xs ++ c.args.image.now ++ c.args.words.now ++ objects) page_is
    ∙ append_assoc (page ++ c.args.image.now) c.args.words.now objects
    ∙ append_assoc page c.args.image.now (c.args.words.now ++ objects)
