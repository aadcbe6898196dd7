use Rattle.std.proofs.Common.{◌∙◌, ◌++◌, [], ap, ap₂, refl, arith}
use Rattle.object_builder.specs.Objects.{bytes_of}
use Rattle.image_builder.specs.ImageFiles.{image_file, image_head}
use Rattle.image_builder.specs.Records.{filled}
use Rattle.image_builder.proofs.Appending.{filled_is}
use Rattle.image_builder.proofs.Lengths.{length-image_head}
use Rattle.image_builder.proofs.image_file.image_file.Goals as goal

pub returns : goal.returns
unfolding image_file bytes_of
returns c =
    let head = image_head c.args.machine in
    let head_is = c.in_ok-add_head.ensures ∙ ap (λ xs. xs ++ head) c.new-image.ensures.items in
    let page_is = c.in_ok-resize.ensures.items ∙ filled_is [] head c.add_head.new.out.items 0x1000 0x1000
    c.add_head.new.out.len (omega (arith, length-image_head c.args.machine)) refl head_is c.add_head.new.out.ok.0 in
    c.in_ok-add_filled.ensures ∙ ap₂ (λ xs ys. xs ++ filled 0x1000 ys) page_is c.to_le_bytes.ensures
